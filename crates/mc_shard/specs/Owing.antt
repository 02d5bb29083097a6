-- What boxes would do of themselves.
use Rattle.std.specs.Prelude.{ℕ, if◌then◌else◌, List, [], ◌∷◌, length, slice_index_or}
use Rattle.std.specs.List.{flat_map, range_with_len}
use Rattle.mc_box.specs.BoxEvents.{is_enabled}
use Rattle.mc_box.specs.Boxes.{BoxState, no_box}
use Rattle.mc_box.specs.declared.event.Event.TheVariants.{Retry, Shift}
use Rattle.mc_shard.specs.declared.owing.BoxSlot.{BoxSlot}

-- a slot, where it owes a retry
abbrev pub owed_if : ℕ → BoxState → ℕ → List BoxSlot
owed_if who box local = if is_enabled box (Retry local) then record { who = who; slot = local } ∷ [] else []

-- the slots of a box that owe a retry
abbrev pub owed_in : ℕ → BoxState → List BoxSlot
owed_in who box = flat_map (owed_if who box) (range_with_len 0 (length box.slots))

-- those of all boxes
abbrev pub owed_slots : List BoxState → List BoxSlot
owed_slots boxes = flat_map (λ who. owed_in who (slice_index_or boxes who no_box)) (range_with_len 0 (length boxes))

-- a box, where its program can go on
abbrev pub shifting_if : ℕ → BoxState → List ℕ
shifting_if who box = if is_enabled box Shift then who ∷ [] else []

-- the boxes whose programs can go on
abbrev pub shifting_boxes : List BoxState → List ℕ
shifting_boxes boxes = flat_map (λ who. shifting_if who (slice_index_or boxes who no_box)) (range_with_len 0 (length boxes))
