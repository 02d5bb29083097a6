use Rattle.std.proofs.Common.{◌≡◌, take}
use Rattle.mc_team.proofs.round.copy_of.Given as goal

-- the entries so far
abbrev pub invariant-loop-index : goal.invariant-loop-index
invariant-loop-index l = l.copy.items ≡ take l.index l.log.items
