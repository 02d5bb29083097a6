use Rattle.std.proofs.Common.{◌≡◌, List, map, rules, subst, sym}
use Rattle.mc_box.specs.Boxes.{BoxState, set_up}
use Rattle.mc_model.specs.Worlds.{first_world}
use Rattle.mc_plan.specs.Layouts.{IsLayout}
use Rattle.mc_plan.specs.Plans.{PlanState, boxes_from}
use Rattle.mc_plan.proofs.Layouts.{plans_give_layouts}
use Rattle.mc_plan.proofs.plan.Plan.layout.Goals as goal

pub invariant_of-result : goal.invariant_of-result
invariant_of-result c =
    let plan : PlanState = record { boxes = c.self.inside.boxes.items; channels = c.self.inside.channels.items } in
    let boxes : map set_up c.in_ok-setups.setups.items ≡ boxes_from c.self.inside.channels.items 0 c.self.inside.boxes.items = search rules in
    subst (λ (l : List BoxState). IsLayout (first_world l c.self.inside.channels.items)) (sym boxes) (plans_give_layouts plan c.self.invariant.laid)
