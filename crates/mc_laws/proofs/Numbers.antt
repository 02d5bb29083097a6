-- The numbers of slots: the far slot of each, and the tunnel that the two share.
use Rattle.std.proofs.Common.{◌≡◌, ◌≢◌, ◌<◌, ◌+◌, ◌*◌, ◌/◌, ◌%◌, ◌==◌, ◌&&◌, true, ℕ, Some, List, length, nat_lt, position, arith}
use Rattle.std.proofs.Math.ListN.{get_or}
use Rattle.std.proofs.lemmas.Grind.{common_steps}
use Rattle.std.proofs.lemmas.List.Quantifiers.{position-Some}
use Rattle.mc_box.specs.Boxes.{BoxState, is_slot}
use Rattle.mc_model.specs.Worlds.{WorldState, far, is_place, number, place, places, slot_count}

-- an option has one value
pub some_same : (s t : ℕ) → Some s ≡ Some t → s ≡ t
some_same s t same = cc

-- far slots are each other's
pub far_back : (s : ℕ) → far (far s) ≡ s
far_back s = grind (arith, common_steps)

-- they are of one tunnel
pub far_half : (s : ℕ) → far s / 2 ≡ s / 2
far_half s = grind (arith, common_steps)

-- and on different sides
pub far_side : (s : ℕ) → far s % 2 + s % 2 ≡ 1
far_side s = grind (arith, common_steps)

-- so they differ
pub far_other : (s : ℕ) → far s ≢ s
far_other s same = grind (arith, common_steps)

-- where slots are two for each tunnel, the far slot is there
pub far_in : (s n : ℕ) → s < 2 * n → far s < 2 * n
far_in s n below = grind (arith, common_steps)

-- a slot is known by its tunnel and its side
pub by_half : (s t : ℕ) → s / 2 ≡ t / 2 → s % 2 ≡ t % 2 → s ≡ t
by_half s t half side = omega arith

-- two slots for each tunnel
pub half_in : (s n : ℕ) → s < 2 * n → s / 2 < n
half_in s n below = omega arith

both_parts : (a b c d : ℕ) → (a == b && c == d) ≡ true → (b ≡ a) × (d ≡ c)
both_parts a b c d is = grind (arith, common_steps)

-- what is found among places is there
pub found_at : (places : List (ℕ × ℕ)) (who local s : ℕ) → position (is_place (who, local)) places ≡ Some s → (s < length places) × ((get_or places s (0, 0)).0 ≡ who) × ((get_or places s (0, 0)).1 ≡ local)
found_at places who local s is =
    let found = position-Some (is_place (who, local)) places s (0, 0) is in
    let parts = both_parts who (get_or places s (0, 0)).0 local (get_or places s (0, 0)).1 found.1 in
    (found.0, parts.0, parts.1)

-- a slot's number is found by its place
pub number_is : (world : WorldState) (who local s : ℕ) → number world who local ≡ Some s → (s < slot_count world) × ((place world s).0 ≡ who) × ((place world s).1 ≡ local)
number_is world who local s is = found_at (places world) who local s is

-- ---- by their tests

-- a local number of a box is below its slots' number
pub slot_inside : (box : BoxState) (local : ℕ) → is_slot box local ≡ true → local < length box.slots
slot_inside box local is = grind (arith, common_steps)

pub box_inside : (world : WorldState) (who : ℕ) → nat_lt who (length world.boxes) ≡ true → who < length world.boxes
box_inside world who is = grind (arith, common_steps)
