use Rattle.std.proofs.Common.{◌++◌, ◌∙◌, List, ap, drop, length, map, Vec, Global, arith}
use Rattle.mc_box.specs.Boxes.{set_up}
use Rattle.mc_box.specs.declared.setup.Setup.{Setup}
use Rattle.mc_box.specs.declared.setup.SlotSetup.{SlotSetup}
use Rattle.mc_plan.specs.Plans.{boxes_given}
use Rattle.mc_plan.specs.Setups.{lists_of}
use Rattle.mc_plan.proofs.Filled.{all_given}
use Rattle.mc_plan.proofs.boxes.setups_with.Goals as goal

pub loop-slots-init : goal.loop-slots-init
loop-slots-init c =
    let none = c.new-setups.ensures.items in
    let given = c.into_iter-slots-iterator.ensures.into_iter_gives.0 in
    let start = ap (λ (setups : List Setup). length setups) none in
    let count = ap (λ (lists : List (Vec SlotSetup Global)). length lists) given in
    record {
      all = ap (λ (setups : List Setup). map set_up setups ++ boxes_given (length setups) (lists_of c.into_iter-slots-iterator.result.rest.items) (drop (length setups) c.args.plans.now)) none
          ∙ ap (λ (lists : List (Vec SlotSetup Global)). boxes_given 0 (lists_of lists) c.args.plans.now) given;
      each = omega (arith, start, count, c.requires.each);
    }

pub returns : goal.returns
returns c = all_given _ _ _ c.loop-slots.slots-iterator.rest.items _ (omega (arith, c.in-None.ensures.steps.0, c.loop-slots.slots-iterator.rest.ok.0)) c.loop-slots.invariant.all
