use Rattle.std.proofs.Common.{length, sym, ◌∙◌}
use Rattle.mc_plain.specs.Programs.{is_goal_at}
use Rattle.mc_plain.proofs.ProgramFits.{each_not}
use Rattle.mc_plain.proofs.program.are_goals.Goals as goal

pub returns-then-not-is_goal_at : goal.returns-then-not-is_goal_at
returns-then-not-is_goal_at c =
    sym (each_not (length c.args.slots.now) (is_goal_at c.args.slots.now c.args.goals.now) c.loop-local.local c.loop-local-test.true
    (sym c.is_goal_at.ensures ∙ c.if-not-is_goal_at.true))
