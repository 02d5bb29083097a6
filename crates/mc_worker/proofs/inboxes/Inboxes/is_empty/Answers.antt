use Rattle.std.proofs.Common.{◌↔◌, IsTrue, List, subst}
use Rattle.mc_signal.specs.declared.Tagged.{Tagged}
use Rattle.mc_worker.specs.Boxes.{AreEmpty, items_of}
use Rattle.mc_worker.proofs.Waiting.{none_waits}
use Rattle.mc_worker.proofs.inboxes.Inboxes.is_empty.Goals as goal

pub returns : goal.returns
returns c =
    subst (λ (boxes : List (List Tagged)). IsTrue c.is_empty.result ↔ AreEmpty boxes) c.self.view_is
    (none_waits (items_of c.self.inside.lanes.items) c.self.inside.waiting c.self.invariant.0 c.is_empty.ensures)
