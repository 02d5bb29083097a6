-- What was done where an export answers OK, and why nothing was done where it answers another code.
use Rattle.std.specs.Prelude.{◌≡◌, ◌<◌, ◌≤◌, ◌*◌, ◌++◌, ℕ, true, false, List, drop, length, map, Some, None}
use Rattle.mc_signal.specs.declared.Signal.{Signal}
use Rattle.mc_slot.specs.Moves.{slot_take}
use Rattle.mc_box.specs.BoxEvents.{box_event, is_enabled, is_version_end}
use Rattle.mc_box.specs.Boxes.{BoxState, slot_at}
use Rattle.mc_box.specs.declared.event.Event.{Event}
use Rattle.mc_box.specs.declared.event.Event.TheVariants.{Take}
use Rattle.mc_plain.specs.Asked.{event_of}
use Rattle.mc_plain.specs.Numbers.{is_signal, sent_of, Says}
use Rattle.mc_plain.specs.declared.answer.TheConstants.{INVALID, NO_SLOT, UNLAWFUL, DISABLED, VERSION_END, NO_ROOM}
use Rattle.mc_plain.specs.declared.asked.PlainEvent.{PlainEvent}
use Rattle.mc_plain.specs.declared.signals.PlainSent.{PlainSent}
use Rattle.mc_plain.specs.declared.signals.PlainSignal.{PlainSignal}

-- these signals are in front of the buffer, and what was after them is still there
abbrev pub AreWritten : List (ℕ × Signal) → List PlainSent → List PlainSent → ℕ → Type 0
AreWritten sent before after count = (after ≡ map sent_of sent ++ drop (length sent) before) × (count ≡ length sent)

-- the slot took the signal that the numbers say
pub record HasTaken (old : BoxState) (slot : ℕ) (plain : PlainSignal) (new : BoxState)
    (before after : List PlainSent) (count : ℕ) : Type 0 where
  pub signal : Signal
  pub sent : List (ℕ × Signal)
  pub possible : is_signal plain ≡ true
  pub says : Says plain signal
  pub event : box_event old (Take slot) (Some signal) ≡ Some record { sent = sent; after = new }
  pub few : length sent ≤ 3
  pub written : AreWritten sent before after count

-- a signal that the numbers say isn't lawful for the slot
pub record IsUnlawful (box : BoxState) (slot : ℕ) (plain : PlainSignal) : Type 0 where
  pub signal : Signal
  pub possible : is_signal plain ≡ true
  pub says : Says plain signal
  pub unlawful : slot_take (slot_at box slot) signal ≡ None

-- the codes of a taking that didn't happen
pub data WhyNotTaken (box : BoxState) (slot : ℕ) (plain : PlainSignal) (room : ℕ) : ℕ → Type 0 where
  invalid : is_signal plain ≡ false → WhyNotTaken box slot plain room INVALID
  no_slot : length box.slots ≤ slot → WhyNotTaken box slot plain room NO_SLOT
  unlawful : IsUnlawful box slot plain → WhyNotTaken box slot plain room UNLAWFUL
  no_room : room < 3 → WhyNotTaken box slot plain room NO_ROOM

-- the event that the numbers say happened
pub record HasActed (old : BoxState) (plain : PlainEvent) (new : BoxState)
    (before after : List PlainSent) (count : ℕ) : Type 0 where
  pub happened : Event
  pub sent : List (ℕ × Signal)
  pub says : event_of plain ≡ Some happened
  pub event : box_event old happened None ≡ Some record { sent = sent; after = new }
  pub few : length sent ≤ 2 * length old.slots
  pub written : AreWritten sent before after count

-- the event that the numbers say can't happen
pub record IsDisabled (box : BoxState) (plain : PlainEvent) : Type 0 where
  pub asked : Event
  pub says : event_of plain ≡ Some asked
  pub disabled : is_enabled box asked ≡ false

-- the event that the numbers say is a Hear of a slot that has the last version
pub record EndsVersions (box : BoxState) (plain : PlainEvent) : Type 0 where
  pub asked : Event
  pub says : event_of plain ≡ Some asked
  pub end : is_version_end box asked ≡ true

-- the codes of an event that didn't happen
pub data WhyNotActed (box : BoxState) (plain : PlainEvent) (room : ℕ) : ℕ → Type 0 where
  invalid : event_of plain ≡ None → WhyNotActed box plain room INVALID
  disabled : IsDisabled box plain → WhyNotActed box plain room DISABLED
  version_end : EndsVersions box plain → WhyNotActed box plain room VERSION_END
  no_room : room < 2 * length box.slots → WhyNotActed box plain room NO_ROOM
