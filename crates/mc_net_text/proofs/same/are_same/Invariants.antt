use Rattle.std.proofs.Common.{◌≡◌, map, take}
use Rattle.mc_net_text.proofs.same.are_same.Given as goal

-- the same so far
abbrev pub invariant-loop-k : goal.invariant-loop-k
invariant-loop-k g l = map g.T.Compared.seen (take l.k l.list) ≡ map g.T.Compared.seen (take l.k l.other)
