use Rattle.mc_divided.specs.Commanding.{HasBegunSettle}
use Rattle.mc_divided.proofs.Changed.{ChangedSoFar}
use Rattle.mc_divided.proofs.commands.begin_parts.Given as goal

-- the first so many have changed
abbrev pub invariant-loop-place : goal.invariant-loop-place
invariant-loop-place l = ChangedSoFar HasBegunSettle l.place l.fn.runs l.runs
