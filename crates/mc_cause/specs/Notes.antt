-- What is noted of a turn, by the world after it.
use Rattle.std.specs.Prelude.{◌≡◌, ◌≢◌, ◌<◌, ℕ, Bool, true, false, List, length, slice_index_or, slice_set, Option, Some, None}
use Rattle.mc_slot.specs.Moves.{is_live}
use Rattle.mc_slot.specs.declared.State.{State}
use Rattle.mc_box.specs.Boxes.{slot_at}
use Rattle.mc_box.specs.declared.event.Event.{Event}
use Rattle.mc_box.specs.declared.event.Event.TheVariants.{Take}
use Rattle.mc_model.specs.Paths.{partner_of}
use Rattle.mc_model.specs.Worlds.{WorldState, box_at, number as number_of, place, slot_count, slot_of}
use Rattle.mc_cause.specs.Carried.{noted, origin_at}
use Rattle.mc_cause.specs.CauseLaws.{closes_by}
use Rattle.mc_cause.specs.Causes.{is_closed}

-- ---- a turn that takes nothing

-- a slot carries what is noted of it
abbrev pub NotesSlot : WorldState → ℕ → ℕ → (old new : List (Option ℕ)) → Type 0
NotesSlot world s origin old new =
    slice_index_or new s None ≡ noted (slot_of world s).state (slice_index_or old s None) origin

-- each slot of a box is noted
pub record NotesBox (world : WorldState) (who : ℕ) (origin : ℕ) (old new : List (Option ℕ)) : Type 0 where
  pub long : length new ≡ length old
  pub own : (s : ℕ) → s < slot_count world → (place world s).0 ≡ who → NotesSlot world s origin old new
  pub others : (s : ℕ) → (place world s).0 ≢ who → slice_index_or new s None ≡ slice_index_or old s None

-- where the turn closes of its own accord
abbrev pub NotesOther : (closes : Bool) → WorldState → (who number : ℕ) → (old new : List (Option ℕ)) → Type 0
NotesOther true world who number old new = NotesBox world who number old new
NotesOther false world who number old new = new ≡ old

-- ---- a Take

-- with what is noted of one slot
abbrev pub with_slot : WorldState → ℕ → (origin : ℕ) → List (Option ℕ) → List (Option ℕ)
with_slot world s origin origins =
    slice_set origins s (noted (slot_of world s).state (slice_index_or origins s None) origin)

-- and of the one that a slot is linked with, if it is
abbrev pub with_partner : WorldState → Option ℕ → (origin : ℕ) → List (Option ℕ) → List (Option ℕ)
with_partner world None origin origins = origins
with_partner world (Some s) origin origins = with_slot world s origin origins

-- the slot that takes has become closed: by its closeack, where it has carried something, and so by its own close; else
-- by a close, which its link passes on
abbrev pub NotesClosed : WorldState → ℕ → (own : Option ℕ) → (number : ℕ)
    → (origins new_origins whys new_whys : List (Option ℕ)) → Type 0
NotesClosed world s (Some own) number origins new_origins whys new_whys =
    (new_origins ≡ slice_set origins s None) × (new_whys ≡ slice_set whys s (Some own))
NotesClosed world s None number origins new_origins whys new_whys =
    (new_origins ≡ with_partner world (partner_of world s) (origin_at origins s number) origins)
    × (new_whys ≡ slice_set whys s (Some (origin_at origins s number)))

-- or it hasn't: it may wait for a closeack now
abbrev pub NotesHere : (closed : Bool) → WorldState → ℕ → State → (number : ℕ)
    → (origins new_origins whys new_whys : List (Option ℕ)) → Type 0
NotesHere true world s state number origins new_origins whys new_whys =
    NotesClosed world s (slice_index_or origins s None) number origins new_origins whys new_whys
NotesHere false world s state number origins new_origins whys new_whys =
    (new_origins ≡ slice_set origins s (noted state (slice_index_or origins s None) number)) × (new_whys ≡ whys)

-- by its state after that
abbrev pub NotesTaken : WorldState → ℕ → State → (number : ℕ) → (origins new_origins whys new_whys : List (Option ℕ))
    → Type 0
NotesTaken world s state number origins new_origins whys new_whys =
    NotesHere (is_closed state) world s state number origins new_origins whys new_whys

-- where it is opened or flowing, nothing has closed
abbrev pub NotesTake : (live : Bool) → WorldState → Option ℕ → State → (number : ℕ)
    → (origins new_origins whys new_whys : List (Option ℕ)) → Type 0
NotesTake false world (Some s) state number origins new_origins whys new_whys =
    NotesTaken world s state number origins new_origins whys new_whys
NotesTake live world slot state number origins new_origins whys new_whys = (new_origins ≡ origins) × (new_whys ≡ whys)

-- ---- each turn

-- the slot that takes is there
abbrev pub IsInside : WorldState → (who : ℕ) → Event → Type 0
IsInside world who (Take local) = local < length (box_at world who).slots
IsInside world who event = Unit {0}

-- all that is noted of a turn of this number
abbrev pub Notes : WorldState → (who : ℕ) → Event → (number : ℕ) → (origins new_origins whys new_whys : List (Option ℕ))
    → Type 0
Notes world who (Take local) number origins new_origins whys new_whys =
    NotesTake (is_live (slot_at (box_at world who) local).state) world (number_of world who local)
    (slot_at (box_at world who) local).state number origins new_origins whys new_whys
Notes world who event number origins new_origins whys new_whys =
    NotesOther (closes_by event) world who number origins new_origins × (new_whys ≡ whys)
