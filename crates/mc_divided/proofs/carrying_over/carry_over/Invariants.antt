use Rattle.mc_divided.proofs.CarriedOver.{CarriedSoFar}
use Rattle.mc_divided.proofs.carrying_over.carry_over.Given as goal

-- the first so many channels are carried over, and all else is as it was
abbrev pub invariant-loop-place : goal.invariant-loop-place
invariant-loop-place l = CarriedSoFar l.fn.crossings l.place l.fn.runs l.runs
