use Rattle.std.proofs.Common.{◌≡◌}
use Rattle.mc_box.specs.Goals.{change_goals}
use Rattle.mc_box.proofs.GoalLoops.{changing}
use Rattle.mc_box.proofs.goals.change_goals.Given as goal

abbrev pub invariant-loop-i : goal.invariant-loop-i
invariant-loop-i l = changing l.change l.i l.goals ≡ change_goals l.initial.goals l.change
