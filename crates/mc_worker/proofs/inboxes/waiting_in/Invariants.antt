use Rattle.std.proofs.Common.{◌≡◌, ℕ, ◌&&◌, nat_lt}
use Rattle.mc_worker.specs.Boxes.{box_of, has_items, items_of}
use Rattle.mc_worker.specs.EndSets.{contains_end}
use Rattle.mc_worker.proofs.inboxes.waiting_in.Given as goal

-- the ends so far
abbrev pub invariant-loop-end : goal.invariant-loop-end
invariant-loop-end l = (e : ℕ) → contains_end l.waiting e ≡ (nat_lt e l.end && has_items (box_of (items_of l.lanes.items) e))
