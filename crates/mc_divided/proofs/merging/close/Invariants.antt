use Rattle.mc_divided.specs.Swapping.{closed_run, swapped_log}
use Rattle.mc_divided.proofs.Swapped.{PairsSoFar}
use Rattle.mc_divided.proofs.merging.close.Given as goal

-- the first so many have changed
abbrev pub invariant-loop-place : goal.invariant-loop-place
invariant-loop-place l = PairsSoFar closed_run swapped_log l.place l.fn.runs l.runs l.fn.logs l.logs
