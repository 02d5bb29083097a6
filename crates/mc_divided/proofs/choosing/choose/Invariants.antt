use Rattle.mc_divided.specs.Phasing.{AreChosen}
use Rattle.mc_divided.proofs.Ends.{ChosenSoFar}
use Rattle.mc_divided.proofs.choosing.choose.Given as goal

-- the first so many are chosen
abbrev pub invariant-loop-place : goal.invariant-loop-place
invariant-loop-place l = ChosenSoFar l.fn.every l.place l.fn.runs l.runs

-- all are
abbrev pub invariant-loop-place-2 : goal.invariant-loop-place-2
invariant-loop-place-2 l = AreChosen l.fn.every l.fn.runs l.runs
