use Rattle.std.proofs.Common.{◌≡◌, take}
use Rattle.mc_net_text.specs.Names.{names_in}
use Rattle.mc_net_text.proofs.same_names.NamesOf.is_same.Given as goal

-- the same so far
abbrev pub invariant-loop-number : goal.invariant-loop-number
invariant-loop-number l = take l.number (names_in l.names l.self) ≡ take l.number (names_in l.other l.self)
