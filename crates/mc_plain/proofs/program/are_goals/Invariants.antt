use Rattle.std.proofs.Common.{◌≡◌, true}
use Rattle.mc_plain.specs.Programs.{each_below, is_goal_at}
use Rattle.mc_plain.proofs.program.are_goals.Given as goal

abbrev pub invariant-loop-local : goal.invariant-loop-local
invariant-loop-local l = each_below l.local (is_goal_at l.slots l.goals) ≡ true
