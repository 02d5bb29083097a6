use Rattle.std.proofs.Common.{◌∙◌, ap, count_by}
use Rattle.mc_worker.specs.Boxes.{has_items, items_of}
use Rattle.mc_worker.proofs.Waiting.{count_waiting}
use Rattle.mc_worker.proofs.inboxes.Inboxes.count_ends.Goals as goal

pub returns : goal.returns
returns c = c.count.ensures ∙ (count_waiting (items_of c.self.inside.lanes.items) c.self.inside.waiting c.self.invariant.0 ∙ ap (count_by has_items) c.self.view_is)
