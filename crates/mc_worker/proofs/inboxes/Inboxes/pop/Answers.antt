use Rattle.std.proofs.Common.{◌∙◌, sym}
use Rattle.mc_worker.specs.Boxes.{box_of, items_of}
use Rattle.mc_worker.proofs.Waiting.{nothing_in, waiting_less, waiting_still}
use Rattle.mc_worker.proofs.inboxes.Inboxes.pop.Goals as goal

pub invariant_of-self : goal.invariant_of-self
invariant_of-self c = (
  waiting_less (items_of c.self.inside.lanes.items) (items_of c.pop_at-tagged.new.lanes.items) c.self.inside.waiting c.remove.new.self c.args.end c.self.invariant.0 c.pop_at-tagged.ensures.others
      (nothing_in (box_of (items_of c.pop_at-tagged.new.lanes.items) c.args.end) (sym c.is_waiting.ensures ∙ c.if-not-is_waiting.true)) c.remove.ensures,
  rw c.pop_at-tagged.ensures.len c.self.invariant.1,
)

pub invariant_of-self-else-not-is_waiting : goal.invariant_of-self-else-not-is_waiting
invariant_of-self-else-not-is_waiting c = (
  waiting_still (items_of c.self.inside.lanes.items) (items_of c.pop_at-tagged.new.lanes.items) c.self.inside.waiting c.args.end c.pop_at-tagged.result c.self.invariant.0 c.pop_at-tagged.ensures.others c.pop_at-tagged.ensures.item
      (sym c.is_waiting.ensures ∙ c.if-not-is_waiting.false),
  rw c.pop_at-tagged.ensures.len c.self.invariant.1,
)
