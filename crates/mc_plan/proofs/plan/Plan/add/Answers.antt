use Rattle.std.proofs.Common.{◌<◌, length, arith}
use Rattle.std.proofs.lemmas.Grind.{common_steps}
use Rattle.mc_plan.specs.declared.limit.TheConstants.{PLAN_BOX_LIMIT}
use Rattle.mc_plan.proofs.Counted.{added_counted}
use Rattle.mc_plan.proofs.plan.Plan.add.Goals as goal

pub invariant_of-self-2 : goal.invariant_of-self-2
invariant_of-self-2 c =
    let few : length c.self.inside.boxes.items < PLAN_BOX_LIMIT = grind (arith, common_steps) in
    rw (c.in_ok-push.ensures.items, c.push_reserved.ensures.items, c.in_ok-reserve.ensures.items) (added_counted (record { boxes = c.self.inside.boxes.items; channels = c.self.inside.channels.items }) c.self.inside.slot_counts.items c.args.planned c.self.invariant few)
