use Rattle.mc_divided.specs.Commanding.{IsKnownAnew}
use Rattle.mc_divided.proofs.Changed.{ChangedSoFar}
use Rattle.mc_divided.proofs.knowing.look_over.Given as goal

-- the first so many were looked over
abbrev pub invariant-loop-place : goal.invariant-loop-place
invariant-loop-place l = ChangedSoFar IsKnownAnew l.place l.fn.runs l.runs
