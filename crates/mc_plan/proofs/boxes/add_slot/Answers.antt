use Rattle.mc_plan.proofs.Filled.{slot_added}
use Rattle.mc_plan.proofs.boxes.add_slot.Goals as goal

pub returns-clause-slots : goal.returns-clause-slots
returns-clause-slots c = slot_added c.args.lists.now.items c.args.who c.args.setup c.index_mut-list.result.now c.push.new.self c.requires c.index_mut-list.ensures.value c.in_ok-push.ensures.items
