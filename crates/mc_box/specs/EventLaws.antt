-- Laws of the events of a box: what each keeps, what each slot does in it, how much it sends, and when it can happen.
use Rattle.std.specs.Prelude.{◌≡◌, ◌≢◌, ◌<◌, ◌≤◌, ◌*◌, ◌&&◌, ℕ, true, false, length, List, ◌∷◌, Option, Some, None, IsSome, IsTrue, All}
use Rattle.mc_signal.specs.declared.Signal.{Signal}
use Rattle.mc_slot.specs.Moves.{slot_take}
use Rattle.mc_box.specs.Acting.{BoxActs}
use Rattle.mc_box.specs.BoxEvents.{BoxStep, box_event, is_command, is_enabled, is_take, is_version_end}
use Rattle.mc_box.specs.BoxShapes.{box_shape, is_enabled_by}
use Rattle.mc_box.specs.BoxSound.{IsSoundBox}
use Rattle.mc_box.specs.Boxes.{BoxState, slot_at}
use Rattle.mc_box.specs.declared.event.Event.{Event}
use Rattle.mc_box.specs.declared.event.Change.{Change}
use Rattle.mc_box.specs.declared.event.Event.TheVariants.{Take, Set, Media, Tell, Retry, Shift}
use Rattle.mc_box.specs.declared.event.MediaChange.{MediaChange}

-- each event of a sound box leaves it sound
abbrev pub EventKeepsSound : Type 0
EventKeepsSound = (box : BoxState) (event : Event) (signal : Option Signal) (step : BoxStep)
    → IsSoundBox box → box_event box event signal ≡ Some step → IsSoundBox step.after

-- an event that takes a signal sends at most three
abbrev pub TakeSendsThree : Type 0
TakeSendsThree = (box : BoxState) (local : ℕ) (signal : Signal) (step : BoxStep)
    → IsSoundBox box → box_event box (Take local) (Some signal) ≡ Some step → length step.sent ≤ 3

-- any other event sends at most twice as many as there are slots
abbrev pub EventSendsTwice : Type 0
EventSendsTwice = (box : BoxState) (event : Event) (step : BoxStep)
    → IsSoundBox box → box_event box event None ≡ Some step → length step.sent ≤ 2 * length box.slots

-- each signal that a sound box sends in an event is sent by one of its slots
abbrev pub EventSendsFromSlots : Type 0
EventSendsFromSlots = (box : BoxState) (event : Event) (signal : Option Signal) (step : BoxStep)
    → IsSoundBox box → box_event box event signal ≡ Some step → All (λ sending. sending.0 < length box.slots) step.sent

-- where a slot takes the first signal that is under way to it, each slot acts: that one takes it, and the others take
-- nothing
abbrev pub TakeActs : Type 0
TakeActs = (box : BoxState) (local : ℕ) (signal : Signal) (step : BoxStep) (to left : ℕ → List Signal)
    → IsSoundBox box → box_event box (Take local) (Some signal) ≡ Some step
    → to local ≡ signal ∷ left local → ((k : ℕ) → k < length box.slots → k ≢ local → left k ≡ to k)
    → BoxActs box to step left

-- in any other event each slot acts and takes nothing
abbrev pub EventActs : Type 0
EventActs = (box : BoxState) (event : Event) (step : BoxStep) (to left : ℕ → List Signal)
    → IsSoundBox box → box_event box event None ≡ Some step → ((k : ℕ) → k < length box.slots → left k ≡ to k)
    → BoxActs box to step left

-- a slot can take a signal that is lawful for it
abbrev pub TakeGoes : Type 0
TakeGoes = (box : BoxState) (local : ℕ) (signal : Signal)
    → IsSoundBox box → local < length box.slots → IsSome (slot_take (slot_at box local) signal)
    → IsSome (box_event box (Take local) (Some signal))

-- an enabled event that takes nothing can happen, unless its slot's version is the last
abbrev pub EventGoes : Type 0
EventGoes = (box : BoxState) (event : Event)
    → IsSoundBox box → IsTrue (is_enabled box event) → is_take event ≡ false → is_version_end box event ≡ false
    → IsSome (box_event box event None)

-- what a Take that happened says of its slot and its signal
abbrev pub TakeWasLawful : Type 0
TakeWasLawful = (box : BoxState) (local : ℕ) (signal : Signal) (step : BoxStep)
    → box_event box (Take local) (Some signal) ≡ Some step
    → (local < length box.slots) × IsSome (slot_take (slot_at box local) signal)

-- an event that happened and took nothing was enabled
abbrev pub EventWasEnabled : Type 0
EventWasEnabled =
    (box : BoxState) (event : Event) (step : BoxStep) → box_event box event None ≡ Some step
    → is_enabled box event ≡ true

-- the table of the events that come from commands: each Set, each Media event and each Tell, and no others
pub record CommandTable : Type 0 where
  pub sets : (change : Change) → is_command (Set change) ≡ true
  pub media : (change : MediaChange) → is_command (Media change) ≡ true
  pub tells : (word : ℕ) → is_command (Tell word) ≡ true
  pub takes : (local : ℕ) → is_command (Take local) ≡ false
  pub retries : (local : ℕ) → is_command (Retry local) ≡ false
  pub shifts : is_command Shift ≡ false

-- what a box's shape enables is each command that is enabled, and nothing else
abbrev pub ShapeEnables : Type 0
ShapeEnables =
    (box : BoxState) (event : Event) → is_enabled_by (box_shape box) event ≡ (is_command event && is_enabled box event)

-- none happens where its slot's version is the last
abbrev pub VersionEndStops : Type 0
VersionEndStops = (box : BoxState) (event : Event) → is_version_end box event ≡ true → box_event box event None ≡ None
