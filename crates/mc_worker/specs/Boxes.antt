-- The inboxes and the outboxes of a box's channel ends, each by its end's number.
use Rattle.std.specs.Prelude.{◌≡◌, ◌≢◌, ℕ, ◌<◌, ◌≤◌, Bool, List, [], length, map, nat_lt, slice_index, slice_index_or}
use Rattle.mc_lane.specs.Queue.{Queue}
use Rattle.mc_port.specs.declared.stamped.Stamped.{Stamped}
use Rattle.mc_signal.specs.declared.Tagged.{Tagged}
use Rattle.mc_worker.specs.EndSets.{contains_end}
use Rattle.mc_worker.specs.declared.end_set.EndSet.{EndSet}

-- what is in each of some queues
abbrev pub items_of : {A : Type 0} → List (Queue A) → List (List A)
items_of {A} queues = map (λ (queue : Queue A). queue.items) queues

-- what is in the box of an end: nothing past the last end
abbrev pub box_of : {A : Type 0} → List (List A) → ℕ → List A
box_of boxes end = slice_index_or boxes end []

-- no box but that of one end changed
pub record ChangesOnlyBox {A : Type 0} (old new : List (List A)) (end : ℕ) : Type 0 where
  pub others : (e : ℕ) → e ≢ end → box_of new e ≡ box_of old e
  pub count : length new ≡ length old

abbrev pub has_items : {A : Type 0} → List A → Bool
has_items items = nat_lt 0 (length items)

-- the set has just the ends whose boxes have something
abbrev pub AreWaiting : List (List Tagged) → EndSet → Type 0
AreWaiting boxes waiting = (end : ℕ) → contains_end waiting end ≡ has_items (box_of boxes end)

-- nothing is in any of the boxes
abbrev pub AreEmpty : {A : Type 0} → List (List A) → Type 0
AreEmpty boxes = (end : ℕ) → box_of boxes end ≡ []

-- the room of a queue
abbrev pub spare_at : {A : Type 0} → List (Queue A) → ℕ → ℕ
spare_at {A} queues end = slice_index (map (λ (queue : Queue A). queue.spare) queues) end

-- each of some queues has room for so many items
abbrev pub EachHasRoom : {A : Type 0} → List (Queue A) → ℕ → Type 0
EachHasRoom queues room = (end : ℕ) → end < length queues → room ≤ spare_at queues end

-- what is in the outboxes, and how many items each has room for at least
pub record OutboxesState : Type 0 where
  pub boxes : List (List Stamped)
  pub room : ℕ
