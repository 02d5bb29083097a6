use Rattle.std.proofs.Common.{◌++◌, ◌∙◌, List, ap, map, subst, sym, arith}
use Rattle.mc_box.specs.Boxes.{BoxState, set_up}
use Rattle.mc_box.specs.declared.setup.Setup.{Setup}
use Rattle.mc_model.specs.Sound.{AreNew}
use Rattle.mc_plan.proofs.Layouts.{all_made, few_slots, made_one, next_new}
use Rattle.mc_plan.proofs.boxes.boxes_of.Goals as goal

pub new-requires-clause-few : goal.new-requires-clause-few
new-requires-clause-few c = few_slots c.in-Some.setup (next_new c.loop-setup.setup-iterator.rest.items c.next.new.self.rest.items c.in-Some.setup c.in-Some.ensures.steps.0 c.loop-setup.invariant.fresh)

pub new-requires-clause-address : goal.new-requires-clause-address
new-requires-clause-address c = (next_new c.loop-setup.setup-iterator.rest.items c.next.new.self.rest.items c.in-Some.setup c.in-Some.ensures.steps.0 c.loop-setup.invariant.fresh).address

pub new-requires-clause-program : goal.new-requires-clause-program
new-requires-clause-program c = (next_new c.loop-setup.setup-iterator.rest.items c.next.new.self.rest.items c.in-Some.setup c.in-Some.ensures.steps.0 c.loop-setup.invariant.fresh).program

pub loop-setup-preserved : goal.loop-setup-preserved
loop-setup-preserved c =
    let more = made_one c.loop-setup.setup-iterator.rest.items c.next.new.self.rest.items c.in-Some.setup c.in_ok-new.field-0 c.loop-setup.boxes.items c.push.new.self.items _
    c.in-Some.ensures.steps.0 c.in_ok-new.ensures c.in_ok-push.ensures.items c.loop-setup.invariant.all c.loop-setup.invariant.fresh in
    record { all = more.0; fresh = more.1 }

pub loop-setup-init : goal.loop-setup-init
loop-setup-init c =
    let given = c.into_iter-setup-iterator.ensures.into_iter_gives.0 in
    record {
      all = ap (λ (boxes : List BoxState). boxes ++ map set_up c.into_iter-setup-iterator.result.rest.items) c.new-boxes.ensures.items ∙ ap (λ (setups : List Setup). map set_up setups) given;
      fresh = subst (λ (setups : List Setup). AreNew (map set_up setups)) (sym given) c.requires;
    }

pub returns : goal.returns
returns c = all_made _ _ c.loop-setup.setup-iterator.rest.items (omega (arith, c.in-None.ensures.steps.0, c.loop-setup.setup-iterator.rest.ok.0)) c.loop-setup.invariant.all
