-- Laws of steps and runs: a sound world stays sound, its slots may take what is under way to them, and something can be
-- taken as long as anything is under way.
use Rattle.std.specs.Prelude.{◌≡◌, ◌<◌, ℕ, false, List, Some, IsSome}
use Rattle.mc_signal.specs.declared.Signal.{Signal}
use Rattle.mc_slot.specs.Moves.{slot_take}
use Rattle.mc_box.specs.Boxes.{BoxState}
use Rattle.mc_model.specs.Settles.{is_quiet}
use Rattle.mc_model.specs.Sound.{AreNew, IsNumbered, IsSound}
use Rattle.mc_laws.specs.Stepped.{Stepped}
use Rattle.mc_model.specs.Steps.{run, step, take_of}
use Rattle.mc_model.specs.Worlds.{ChannelState, WorldState, first_world, front, slot_count, slot_of}
use Rattle.mc_box.specs.declared.event.Turn.{Turn}

-- each enabled turn of a sound world is what the slots of its box do
abbrev pub StepActs : Type 0
StepActs =
    (world next : WorldState) (turn : Turn) → IsSound world → step world turn ≡ Some next → Stepped world next turn.who

-- each enabled turn of a sound world leads to a sound world
abbrev pub StepKeepsSound : Type 0
StepKeepsSound = (world next : WorldState) (turn : Turn) → IsSound world → step world turn ≡ Some next → IsSound next

-- and so does each run
abbrev pub RunKeepsSound : Type 0
RunKeepsSound =
    (world next : WorldState) (turns : List Turn) → IsSound world → run world turns ≡ Some next → IsSound next

-- a signal at the front of a slot's lane, which is for the slot, is one that it may take
abbrev pub FrontIsTaken : Type 0
FrontIsTaken =
    (world : WorldState) (s : ℕ) (signal : Signal) → IsSound world → s < slot_count world → front world s ≡ Some signal
    → IsSome (slot_take (slot_of world s) signal)

-- that Take is enabled where there is such a signal
abbrev pub FrontStepGoes : Type 0
FrontStepGoes =
    (world : WorldState) (s : ℕ) (signal : Signal) → IsSound world → s < slot_count world → front world s ≡ Some signal
    → IsSome (step world (take_of world s))

-- as long as something is under way, some slot can take its front
abbrev pub UnderWayGoes : Type 0
UnderWayGoes =
    (world : WorldState) → IsSound world → is_quiet world ≡ false
    → (s : ℕ) × (s < slot_count world) × IsSome (step world (take_of world s))

-- a world of new boxes, of any number of them and of channels, is sound where all is numbered as it should be
abbrev pub FirstIsSound : Type 0
FirstIsSound = (boxes : List BoxState) (channels : List ChannelState) → AreNew boxes
    → IsNumbered (first_world boxes channels) → IsSound (first_world boxes channels)
