use Rattle.mc_worker.specs.Boxes.{items_of}
use Rattle.mc_worker.proofs.Waiting.{waiting_as}
use Rattle.mc_worker.proofs.inboxes.Inboxes.bring_in.Goals as goal

pub invariant_of-self : goal.invariant_of-self
invariant_of-self c = (
  waiting_as (items_of c.self.inside.lanes.items) (items_of c.bring_to-brought.new.lanes.items) c.self.inside.waiting c.set.new.self c.args.far c.is_waiting-waits.result c.self.invariant.0 c.bring_to-brought.ensures.boxes.others
      c.is_waiting-waits.ensures c.set.ensures,
  rw c.bring_to-brought.ensures.lanes c.self.invariant.1,
)

pub invariant_of-self-2 : goal.invariant_of-self-2
invariant_of-self-2 c = (
  waiting_as (items_of c.self.inside.lanes.items) (items_of c.bring_to-brought.new.lanes.items) c.self.inside.waiting c.set.new.self c.args.far c.is_waiting-waits.result c.self.invariant.0 c.bring_to-brought.ensures.boxes.others
      c.is_waiting-waits.ensures c.set.ensures,
  rw c.bring_to-brought.ensures.lanes c.self.invariant.1,
)
