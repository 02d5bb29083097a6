use Rattle.std.proofs.Common.{◌≡◌, ◌∙◌, List, [], ap, length, map, replicate, subst, sym}
use Rattle.std.specs.Result.{IfOk}
use Rattle.std.proofs.lemmas.List.{length-map, length-replicate}
use Rattle.mc_box.specs.Boxes.{BoxState, set_up}
use Rattle.mc_box.specs.declared.setup.SlotSetup.{SlotSetup}
use Rattle.mc_plan.specs.Plans.{boxes_from, boxes_given}
use Rattle.mc_plan.specs.Setups.{lists_of, setups_of}
use Rattle.mc_plan.proofs.Filled.{all_there, boxes_filled, more_length}
use Rattle.mc_plan.proofs.boxes.setups_from.Goals as goal

pub slots_by_box-requires-clause-there : goal.slots_by_box-requires-clause-there
slots_by_box-requires-clause-there c = all_there (length c.args.plans.now) c.args.channels.now c.requires.tunnels c.requires.there

pub setups_with-requires-clause-each : goal.setups_with-requires-clause-each
setups_with-requires-clause-each c =
    sym (length-map c.in_ok-lists.lists.items (λ list. list.items))
    ∙ (ap length c.in_ok-lists.ensures ∙ (more_length (setups_of c.args.channels.now) 0 (replicate (length c.args.plans.now) []) ∙ length-replicate (length c.args.plans.now) []))

pub returns : goal.returns
returns c =
    let filled : boxes_given 0 (lists_of c.in_ok-lists.lists.items) c.args.plans.now ≡ boxes_from c.args.channels.now 0 c.args.plans.now =
    ap (λ (lists : List (List SlotSetup)). boxes_given 0 lists c.args.plans.now) c.in_ok-lists.ensures ∙ boxes_filled c.args.channels.now 0 c.args.plans.now in
    subst (λ (boxes : List BoxState). IfOk c.setups_with.result (λ setups. map set_up setups.items ≡ boxes)) filled c.setups_with.ensures
