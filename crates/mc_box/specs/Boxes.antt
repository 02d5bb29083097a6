-- A box as clauses see it, and what it is as new.
use Rattle.std.specs.Prelude.{◌≡◌, ◌<◌, ◌≤◌, ◌^◌, ℕ, Bool, true, false, List, [], ◌∷◌, ◌++◌, map, length, nat_lt, slice_index_or, slice_set, Option, Some, None, IfSome}
use Rattle.mc_rule.specs.Programs.{IsProgram, ProgStateState, no_state}
use Rattle.mc_signal.specs.Empty.{no_codecs}
use Rattle.mc_signal.specs.Own.{address_of, port_of, device_descriptor, device_sender, feature_descriptor, feature_sender}
use Rattle.mc_signal.specs.declared.codec_list.CodecList.{CodecList}
use Rattle.mc_signal.specs.declared.Descriptor.{Descriptor}
use Rattle.mc_signal.specs.declared.Medium.TheVariants.{Audio}
use Rattle.mc_signal.specs.declared.Sender.{Sender}
use Rattle.mc_slot.specs.EndTurn.{owes}
use Rattle.mc_slot.specs.Moves.{closed_slot}
use Rattle.mc_slot.specs.declared.Goal.TheVariants.{Close as ToClose}
use Rattle.mc_slot.specs.declared.Slot.{Slot}
use Rattle.mc_slot.specs.declared.SlotGoal.{SlotGoal}
use Rattle.mc_slot.specs.declared.SlotGoal.TheVariants.{End, Link}
use Rattle.mc_box.specs.declared.event.Kind.{Kind}
use Rattle.mc_box.specs.declared.event.Kind.TheVariants.{Device, Feature}
use Rattle.mc_box.specs.declared.limit.TheConstants.{SLOT_LIMIT}
use Rattle.mc_box.specs.declared.setup.MediaAddress.{MediaAddress}
use Rattle.mc_box.specs.declared.setup.Setup.{Setup}
use Rattle.mc_box.specs.declared.setup.SlotMedia.{SlotMedia}
use Rattle.mc_box.specs.declared.setup.SlotSetup.{SlotSetup}

-- a box: its kind and number, the lists that it receives and sends, the version at which its descriptors begin, for
-- each slot the slot, its goal, and what its descriptors are made of, and its program, with the state that it is at and
-- the told word that it keeps
pub record BoxState : Type 0 where
  pub kind : Kind
  pub number : ℕ
  pub receives : CodecList
  pub sends : CodecList
  pub first_version : ℕ
  pub slots : List Slot
  pub goals : List SlotGoal
  pub media : List SlotMedia
  pub program : Option (List ProgStateState)
  pub at : Option ℕ
  pub told : Option ℕ

-- each slot has its goal and its media
pub record IsBox (box : BoxState) : Type 0 where
  pub goals : length box.goals ≡ length box.slots
  pub media : length box.media ≡ length box.slots

abbrev pub is_slot : BoxState → ℕ → Bool
is_slot box local = nat_lt local (length box.slots)

-- what stands where nothing is
abbrev pub no_slot : Slot
no_slot = closed_slot Audio false

abbrev pub no_media : SlotMedia
no_media = record { origin = 0; version = 0; hears = false; talks = false; address = None }

abbrev pub slot_at : BoxState → ℕ → Slot
slot_at box local = slice_index_or box.slots local no_slot

abbrev pub goal_at : BoxState → ℕ → SlotGoal
goal_at box local = slice_index_or box.goals local (End ToClose)

abbrev pub media_at : BoxState → ℕ → SlotMedia
media_at box local = slice_index_or box.media local no_media

abbrev pub with_slot : BoxState → ℕ → Slot → BoxState
with_slot box local slot = record box { slots = slice_set box.slots local slot }

abbrev pub with_goals : BoxState → List SlotGoal → BoxState
with_goals box goals = record box { goals = goals }

abbrev pub with_media : BoxState → ℕ → SlotMedia → BoxState
with_media box local media = record box { media = slice_set box.media local media }

-- the media address of a device's slot: the one it was given, or else one made of the number of the box and the local
-- number
abbrev pub media_address : Option MediaAddress → ℕ → ℕ → MediaAddress
media_address (Some given) number local = given
media_address None number local = record { addr = address_of number; port = port_of local }

abbrev pub own_of : Kind → BoxState → SlotMedia → ℕ → Descriptor
own_of Device box media local =
    device_descriptor media.origin media.version (media_address media.address box.number local).addr
    (media_address media.address box.number local).port media.hears box.receives
own_of Feature box media local = feature_descriptor media.origin

-- the newest descriptor of a slot
abbrev pub own : BoxState → ℕ → Descriptor
own box local = own_of box.kind box (media_at box local) local

abbrev pub sender_of : Kind → BoxState → SlotMedia → ℕ → Sender
sender_of Device box media local =
    device_sender (media_address media.address box.number local).addr
    (media_address media.address box.number local).port media.talks box.sends
sender_of Feature box media local = feature_sender

-- what a slot can send
abbrev pub sender : BoxState → ℕ → Sender
sender box local = sender_of box.kind box (media_at box local) local

-- only an end owes retries
abbrev pub slot_owes : SlotGoal → Slot → Bool
slot_owes (End goal) slot = owes goal slot
slot_owes (Link partner) slot = false

-- whether a slot owes a retry
abbrev pub box_owes : BoxState → ℕ → Bool
box_owes box local = slot_owes (goal_at box local) (slot_at box local)

-- ---- programs

-- the states of a program, and none where there is no program
abbrev pub states_of : Option (List ProgStateState) → List ProgStateState
states_of None = []
states_of (Some states) = states

-- the goals of one of them
abbrev pub goals_in : List ProgStateState → ℕ → List SlotGoal
goals_in states at = (slice_index_or states at no_state).goals

-- the states of a program for these slots of a feature: each has a goal for each slot, and links slots of one medium
pub record FitsSlots (kind : Kind) (slots : List Slot) (states : List ProgStateState) : Type 0 where
  pub feature : kind ≡ Feature
  pub program : IsProgram states
  pub goals : (at : ℕ) → at < length states → length (goals_in states at) ≡ length slots
  pub media : (at local partner : ℕ) → slice_index_or (goals_in states at) local (End ToClose) ≡ Link partner
      → (slice_index_or slots partner no_slot).medium ≡ (slice_index_or slots local no_slot).medium

-- ---- a box as new

abbrev pub first_slot : SlotSetup → Slot
first_slot setup = closed_slot setup.medium setup.initiator

-- hearing and talking are on at the beginning
abbrev pub first_media : ℕ → SlotSetup → SlotMedia
first_media version setup =
    record { origin = setup.origin; version = version; hears = true; talks = true; address = setup.address }

abbrev pub first_goal : SlotSetup → SlotGoal
first_goal setup = End ToClose

-- a new box: all its slots are closed, all its goals are close, and its program is at no state
abbrev pub first_box : Kind → (number : ℕ) → CodecList → CodecList → (version : ℕ) → List SlotSetup
    → Option (List ProgStateState) → BoxState
first_box kind number receives sends version setups program = record {
  kind = kind;
  number = number;
  receives = receives;
  sends = sends;
  first_version = version;
  slots = map first_slot setups;
  goals = map first_goal setups;
  media = map (first_media version) setups;
  program = program;
  at = None;
  told = None;
}

-- a box gets one slot more: it comes last, closed and with goal close, and hears and talks at the box's first version
abbrev pub with_new_slot : BoxState → SlotSetup → BoxState
with_new_slot box setup = record box {
  slots = box.slots ++ first_slot setup ∷ [];
  goals = box.goals ++ first_goal setup ∷ [];
  media = box.media ++ first_media box.first_version setup ∷ [];
}

-- the new box of a setup
abbrev pub set_up : Setup → BoxState
set_up setup =
    first_box setup.kind setup.number setup.codecs setup.sends setup.first_version setup.slots.items setup.program

-- a box is new, within the limits: some version and slots give it, which its program fits
pub record IsNewBox (box : BoxState) : Type 0 where
  pub version : ℕ
  pub setups : List SlotSetup
  pub few : length setups ≤ SLOT_LIMIT
  pub address : address_of box.number < 2 ^ 32
  pub program : IfSome box.program (FitsSlots box.kind box.slots)
  pub is : box ≡ first_box box.kind box.number box.receives box.sends version setups box.program

-- what stands where no box is
abbrev pub no_box : BoxState
no_box = first_box Feature 0 no_codecs no_codecs 0 [] None
