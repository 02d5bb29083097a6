-- What each slot of a box does while the box makes a step: it takes the first of what is under way to it, or nothing,
-- and then sends.
use Rattle.std.specs.Prelude.{◌≡◌, ◌<◌, ◌==◌, ℕ, Option, Some, if◌then◌else◌, List, [], ◌∷◌, ◌++◌, length}
use Rattle.mc_signal.specs.declared.Signal.{Signal}
use Rattle.mc_slot.specs.Moves.{answer_signals, slot_send_all, slot_take}
use Rattle.mc_slot.specs.declared.Slot.{Slot}
use Rattle.mc_box.specs.BoxEvents.{BoxStep}
use Rattle.mc_box.specs.BoxSound.{IsSoundBox}
use Rattle.mc_box.specs.Boxes.{BoxState, media_at, slot_at}

-- a slot takes the first of what is under way to it, or nothing, and then sends, its answer first: the slot and what is
-- under way to it, what it sends, and the slot and what is still under way to it after that
pub data Acted : Slot → List Signal → List Signal → Slot → List Signal → Type 0 where
  sends : {a after : Slot} {to_a signals : List Signal} → slot_send_all a signals ≡ Some after
      → Acted a to_a signals after to_a
  takes : {a after : Slot} {signal : Signal} {rest : List Signal} (middle : Slot) (signals : List Signal)
      (answer : Option Signal)
      → slot_take a signal ≡ Some record { answer = answer; after = middle } → slot_send_all middle signals ≡ Some after
      → Acted a (signal ∷ rest) (answer_signals answer ++ signals) after rest

-- what one slot sends, of all that its box sends, in order
abbrev pub sent_by : ℕ → List (ℕ × Signal) → List Signal
sent_by local [] = []
sent_by local (sending ∷ rest) = if sending.0 == local then sending.1 ∷ sent_by local rest else sent_by local rest

-- a box of the same kind and number, with the same lists of codecs and the same first version, as many slots and the
-- same program
pub record IsAlike (new old : BoxState) : Type 0 where
  pub kind : new.kind ≡ old.kind
  pub number : new.number ≡ old.number
  pub receives : new.receives ≡ old.receives
  pub sends : new.sends ≡ old.sends
  pub first_version : new.first_version ≡ old.first_version
  pub slots : length new.slots ≡ length old.slots
  pub program : new.program ≡ old.program

-- a box alike, with as many goals and media, which are of the same slots
pub record IsSameMake (new old : BoxState) : Type 0 where
  pub alike : IsAlike new old
  pub goals : length new.goals ≡ length old.goals
  pub media : length new.media ≡ length old.media
  pub origins : (local : ℕ) → (media_at new local).origin ≡ (media_at old local).origin

-- what each slot of a box does while the box makes a step: `to` is what is under way to each slot, and `left` what is
-- still under way after it
pub record BoxActs (box : BoxState) (to : ℕ → List Signal) (step : BoxStep) (left : ℕ → List Signal) : Type 0 where
  pub acted : (local : ℕ) → local < length box.slots
      → Acted (slot_at box local) (to local) (sent_by local step.sent) (slot_at step.after local) (left local)
  pub make : IsSameMake step.after box
  pub sound : IsSoundBox step.after
