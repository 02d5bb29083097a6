use Rattle.std.proofs.Common.{◌≡◌, ◌++◌, drop}
use Rattle.mc_phase.specs.Left.{turns_from}
use Rattle.mc_team.specs.Ends.{stimuli_of}
use Rattle.mc_phase.proofs.leaving.left_to.Given as goal

abbrev pub invariant-loop-who : goal.invariant-loop-who
invariant-loop-who l = l.turns.items ++ turns_from l.who (drop l.who (stimuli_of l.members)) ≡ turns_from 0 (stimuli_of l.members)
