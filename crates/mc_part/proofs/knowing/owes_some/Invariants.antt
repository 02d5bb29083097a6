use Rattle.std.proofs.Common.{◌<◌, ℕ}
use Rattle.mc_part.specs.Knowing.{OwesNone}
use Rattle.mc_part.proofs.knowing.owes_some.Given as goal

-- none of those so far
abbrev pub invariant-loop-who : goal.invariant-loop-who
invariant-loop-who l = (other : ℕ) → other < l.who → OwesNone l.part.engine other
