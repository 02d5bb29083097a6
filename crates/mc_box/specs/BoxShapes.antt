-- The shapes of boxes: what commands need to know of them, and which commands they can have by that.
use Rattle.std.specs.Prelude.{ℕ, ◌==◌, ◌&&◌, Bool, true, false, is_some, not, List, [], length, map, nat_lt, slice_index_or}
use Rattle.mc_signal.specs.declared.Medium.{Medium}
use Rattle.mc_signal.specs.declared.Medium.TheVariants.{Audio}
use Rattle.mc_slot.specs.Moves.{is_same_medium}
use Rattle.mc_box.specs.Boxes.{BoxState}
use Rattle.mc_box.specs.declared.event.Change.TheVariants.{End as NewEnd, Link as NewLink}
use Rattle.mc_box.specs.declared.event.Event.{Event}
use Rattle.mc_box.specs.declared.event.Event.TheVariants.{Set, Media, Tell}
use Rattle.mc_box.specs.declared.event.Kind.{Kind}
use Rattle.mc_box.specs.declared.event.Kind.TheVariants.{Device, Feature}
use Rattle.mc_box.specs.declared.event.MediaChange.TheVariants.{Hear, Talk}

-- what a box is, the media of its slots, and whether it has a program
pub record BoxShapeState : Type 0 where
  pub kind : Kind
  pub media : List Medium
  pub programmed : Bool

-- the shape of a box
abbrev pub box_shape : BoxState → BoxShapeState
box_shape box =
    record { kind = box.kind; media = map (λ slot. slot.medium) box.slots; programmed = is_some box.program }

-- what stands where no box is
abbrev pub no_shape : BoxShapeState
no_shape = record { kind = Feature; media = []; programmed = false }

abbrev pub shape_of : List BoxShapeState → ℕ → BoxShapeState
shape_of shapes who = slice_index_or shapes who no_shape

abbrev pub has_slot : BoxShapeState → ℕ → Bool
has_slot shape local = nat_lt local (length shape.media)

abbrev pub slot_medium : BoxShapeState → ℕ → Medium
slot_medium shape local = slice_index_or shape.media local Audio

-- the medium of a slot of a box
abbrev pub medium_at : List BoxShapeState → ℕ → ℕ → Medium
medium_at shapes who local = slot_medium (shape_of shapes who) local

abbrev pub is_device : Kind → Bool
is_device Device = true
is_device Feature = false

abbrev pub is_feature : Kind → Bool
is_feature Feature = true
is_feature Device = false

-- enabled by shape: whether a box of this shape can have a command. An end is a slot of it; a link is of a feature,
-- between two slots of one medium; media are a device's; and words are for programs. What is no command isn't enabled
-- by shape
abbrev pub is_enabled_by : BoxShapeState → Event → Bool
is_enabled_by shape (Set (NewEnd local goal)) = has_slot shape local
is_enabled_by shape (Set (NewLink first second)) =
    is_feature shape.kind && has_slot shape first && has_slot shape second && not (first == second)
    && is_same_medium (slot_medium shape first) (slot_medium shape second)
is_enabled_by shape (Media (Hear local on)) = is_device shape.kind && has_slot shape local
is_enabled_by shape (Media (Talk local on)) = is_device shape.kind && has_slot shape local
is_enabled_by shape (Tell word) = shape.programmed
is_enabled_by shape event = false
