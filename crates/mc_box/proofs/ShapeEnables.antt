-- What the shape of a box enables.
use Rattle.std.proofs.Common.{◌≡◌, ◌&&◌, ℕ, zero, suc, Bool, nat_lt, List, [], ◌∷◌, map, refl, ap}
use Rattle.std.proofs.Math.ListN.{get_or}
use Rattle.std.proofs.lemmas.List.{length-map}
use Rattle.mc_signal.specs.declared.Medium.TheVariants.{Audio}
use Rattle.mc_slot.specs.declared.Slot.{Slot}
use Rattle.mc_box.specs.BoxEvents.{may_link}
use Rattle.mc_box.specs.BoxShapes.{box_shape, has_slot, is_device, is_enabled_by, slot_medium}
use Rattle.mc_box.specs.Boxes.{BoxState, is_slot, no_slot, slot_at}
use Rattle.mc_box.specs.EventLaws.{ShapeEnables}
use Rattle.mc_box.specs.declared.event.Change.TheVariants.{End as NewEnd, Link as NewLink}
use Rattle.mc_box.specs.declared.event.Event.TheVariants.{Take, Set, Media, Tell, Retry, Shift}
use Rattle.mc_box.specs.declared.event.MediaChange.TheVariants.{Hear, Talk}

-- the shape has the slots of the box
shape_slot : (box : BoxState) (local : ℕ) → has_slot (box_shape box) local ≡ is_slot box local
shape_slot box local = ap (nat_lt local) (length-map box.slots (λ (slot : Slot). slot.medium))

-- the medium of the slot at an index, where one is or not
pub medium_of : (slots : List Slot) (k : ℕ) → get_or (map (λ (slot : Slot). slot.medium) slots) k Audio ≡ (get_or slots k no_slot).medium
medium_of [] k = refl
medium_of (slot ∷ slots) zero = refl
medium_of (slot ∷ slots) (suc k) = medium_of slots k

-- and their media
shape_medium : (box : BoxState) (local : ℕ) → slot_medium (box_shape box) local ≡ (slot_at box local).medium
shape_medium box local = medium_of box.slots local

shape_links : (box : BoxState) (first second : ℕ) → is_enabled_by (box_shape box) (Set (NewLink first second)) ≡ may_link box first second
shape_links box first second =
    rw (shape_slot box first, shape_slot box second, shape_medium box first, shape_medium box second) refl

pub shape_enables : ShapeEnables
shape_enables box (Set (NewEnd local goal)) = shape_slot box local
shape_enables box (Set (NewLink first second)) = shape_links box first second
shape_enables box (Media (Hear local on)) = ap (λ (here : Bool). is_device box.kind && here) (shape_slot box local)
shape_enables box (Media (Talk local on)) = ap (λ (here : Bool). is_device box.kind && here) (shape_slot box local)
shape_enables box (Tell word) = refl
shape_enables box (Take local) = refl
shape_enables box (Retry local) = refl
shape_enables box Shift = refl
