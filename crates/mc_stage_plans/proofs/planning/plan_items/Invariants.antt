use Rattle.std.proofs.Common.{drop}
use Rattle.mc_stage_plans.proofs.OpenPlans.{StillPlans}
use Rattle.mc_stage_plans.proofs.planning.plan_items.Given as goal

-- the open part comes before that of the next settle
abbrev pub invariant-loop-item : goal.invariant-loop-item
invariant-loop-item l = StillPlans l.initial.plans.items l.plans.items l.growths.items l.batch.items l.items (drop l.item-index l.items)
