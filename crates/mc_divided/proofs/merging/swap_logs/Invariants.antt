use Rattle.mc_divided.specs.Swapping.{swapped_run, swapped_log}
use Rattle.mc_divided.proofs.Swapped.{PairsSoFar}
use Rattle.mc_divided.proofs.merging.swap_logs.Given as goal

-- the first so many have changed
abbrev pub invariant-loop-place : goal.invariant-loop-place
invariant-loop-place l = PairsSoFar swapped_run swapped_log l.place l.fn.runs l.runs l.fn.logs l.logs
