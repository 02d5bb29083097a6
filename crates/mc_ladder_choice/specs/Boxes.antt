-- Which boxes take part in what stands in a journal.
use Rattle.std.specs.Prelude.{ℕ, ◌==◌, Bool, if◌then◌else◌, nat_lt, List, [], ◌∷◌, ◌++◌, Option, None, Some}
use Rattle.std.specs.List.{flat_map, list_any}
use Rattle.mc_box.specs.declared.event.Event.{Event}
use Rattle.mc_box.specs.declared.event.Event.TheVariants.{Take}
use Rattle.mc_box.specs.declared.event.Turn.{Turn}
use Rattle.mc_model.specs.Paths.{whole_walk}
use Rattle.mc_model.specs.Worlds.{WorldState, far, number, place, slot_count}

-- ---- lists of boxes

-- a box is in a list
abbrev pub is_among : List ℕ → ℕ → Bool
is_among boxes who = list_any (λ other. other == who) boxes

-- the list, and at its end a box that isn't in it yet
abbrev pub with_new : List ℕ → ℕ → List ℕ
with_new boxes who = if is_among boxes who then boxes else boxes ++ who ∷ []

-- the same for each of these boxes, in their order
abbrev pub with_all_new : List ℕ → List ℕ → List ℕ
with_all_new boxes [] = boxes
with_all_new boxes (who ∷ others) = with_all_new (with_new boxes who) others

-- ---- a turn

-- the box of the far slot, by the slot that takes
abbrev pub sender_at : WorldState → Option ℕ → List ℕ
sender_at world None = []
sender_at world (Some s) = (place world (far s)).0 ∷ []

-- the box from which a signal comes, where an event takes one
abbrev pub sender_of : WorldState → (who : ℕ) → Event → List ℕ
sender_of world who (Take local) = sender_at world (number world who local)
sender_of world who event = []

-- the box of a turn, and the one from which its signal comes
abbrev pub turn_boxes : WorldState → Turn → List ℕ
turn_boxes world turn = turn.who ∷ sender_of world turn.who turn.event

-- ---- a path

-- the boxes of both slots of a tunnel, by the slot from which a path goes over it
abbrev pub tunnel_boxes : WorldState → ℕ → List ℕ
tunnel_boxes world s = (place world s).0 ∷ (place world (far s)).0 ∷ []

-- the boxes of all slots on the path from a slot
abbrev pub boxes_from : WorldState → ℕ → List ℕ
boxes_from world low = flat_map (tunnel_boxes world) (whole_walk world low)

-- the same; none where there is no such slot
abbrev pub path_boxes : WorldState → ℕ → List ℕ
path_boxes world low = if nat_lt low (slot_count world) then boxes_from world low else []
