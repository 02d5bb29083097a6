use Rattle.mc_team.proofs.TakenInboxes.{IsEmptying}
use Rattle.mc_team.specs.Made.{inboxes_of}
use Rattle.mc_worker.specs.Boxes.{items_of}
use Rattle.mc_team.proofs.ending.take_each.Given as goal

abbrev pub invariant-loop-ends : goal.invariant-loop-ends
invariant-loop-ends l = IsEmptying l.lanes l.ends-index (inboxes_of l.fn.inboxes.items) (inboxes_of l.inboxes.items) (items_of l.taken.items)
