use Rattle.std.proofs.Common.{◌≡◌, ◌++◌, drop, map}
use Rattle.mc_program_lines.specs.Finished.{given_goal}
use Rattle.mc_program_lines.proofs.finished.goals_of.Given as goal

-- the goals so far, and those of the other slots, are all
abbrev pub invariant-loop-goal : goal.invariant-loop-goal
invariant-loop-goal l = l.goals.items ++ map given_goal (drop l.goal-index l.given) ≡ map given_goal l.given
