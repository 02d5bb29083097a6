-- Laws of causes: which turns they are.
use Rattle.std.specs.Prelude.{◌≡◌, ◌≢◌, ◌↔◌, ◌<◌, ◌+◌, if◌then◌else◌, ℕ, ◌++◌, ◌&&◌, Bool, true, false, List, [], ◌∷◌, length, Option, Some, None}
use Rattle.std.specs.Option.{option_and_then}
use Rattle.mc_signal.specs.declared.Signal.{Signal}
use Rattle.mc_signal.specs.declared.Signal.TheVariants.{Close, Closeack, Open}
use Rattle.mc_slot.specs.Outlook.{waits}
use Rattle.mc_slot.specs.declared.Goal.TheVariants.{Close as ToClose}
use Rattle.mc_slot.specs.declared.SlotGoal.{SlotGoal}
use Rattle.mc_slot.specs.declared.SlotGoal.TheVariants.{End}
use Rattle.mc_slot.specs.declared.State.TheVariants.{Closing}
use Rattle.mc_box.specs.Boxes.{BoxState, goal_at}
use Rattle.mc_box.specs.declared.event.Change.{Change}
use Rattle.mc_box.specs.declared.event.Change.TheVariants.{End as NewEnd, Link as NewLink}
use Rattle.mc_box.specs.declared.event.Event.{Event}
use Rattle.mc_box.specs.declared.event.Event.TheVariants.{Take, Set, Shift}
use Rattle.mc_box.specs.declared.event.Turn.{Turn}
use Rattle.mc_model.specs.Sound.{AreNew, IsSound}
use Rattle.mc_model.specs.Steps.{after, run, step}
use Rattle.mc_model.specs.Worlds.{ChannelState, WorldState, box_at, first_world, front, number, slot_count, slot_of}
use Rattle.mc_cause.specs.Causes.{Known, becomes_closed, known_after, next_world, taken, takes_close, why}

-- the goal is an end's, and is close
abbrev pub is_close_goal : SlotGoal → Bool
is_close_goal (End ToClose) = true
is_close_goal goal = false

abbrev pub is_open : Option Signal → Bool
is_open (Some (Open medium d)) = true
is_open signal = false

-- the change gives a slot the goal close
abbrev pub gives_close : Change → Bool
gives_close (NewEnd local goal) = is_close_goal (End goal)
gives_close (NewLink first second) = false

-- an event that takes nothing closes of its own accord
abbrev pub closes_by : Event → Bool
closes_by (Set change) = gives_close change
closes_by Shift = true
closes_by event = false

abbrev pub begins_by : WorldState → ℕ → Event → Bool
begins_by world who (Set (NewEnd local ToClose)) = true
begins_by world who Shift = true
begins_by world who (Take local) =
    is_open (option_and_then (front world) (number world who local)) && is_close_goal (goal_at (box_at world who) local)
begins_by world who event = false

-- a turn closes of its own accord: a Set of the goal close, a Shift, or the Take of an open by an end under close
abbrev pub begins_close : WorldState → Turn → Bool
begins_close world turn = begins_by world turn.who turn.event

-- one of these turns, by its number, closes of its own accord in the world that the turns before it leave
pub record Begins (world : WorldState) (turns : List Turn) (at : ℕ) : Type 0 where
  pub before : List Turn
  pub turn : Turn
  pub rest : List Turn
  pub splits : turns ≡ before ++ turn ∷ rest
  pub counted : at ≡ length before + 1
  pub begins : begins_close (after world before) turn ≡ true

-- no slot of the world waits for a closeack: so no close is under way, and none is known
abbrev pub NoneCloses : WorldState → Type 0
NoneCloses world = (s : ℕ) → s < slot_count world → (slot_of world s).state ≢ Closing

-- a cause that is a turn is one that closes of its own accord
abbrev pub CausesBegin : Type 0
CausesBegin =
    (world last : WorldState) (turns : List Turn) (s at : ℕ) → IsSound world → NoneCloses world
    → run world turns ≡ Some last
    → s < slot_count world → why world turns s ≡ Some at → Begins world turns at

-- and it takes no close
abbrev pub BeginsTakeNone : Type 0
BeginsTakeNone = (world : WorldState) (turn : Turn) → begins_close world turn ≡ true → takes_close world turn ≡ None

-- by how many of these turns a slot became closed
abbrev pub times_closed : WorldState → List Turn → ℕ → ℕ
times_closed world [] s = 0
times_closed world (turn ∷ turns) s =
    (if becomes_closed world turn s then 1 else 0) + times_closed (next_world world turn) turns s

-- there is no cause exactly where the slot never became closed
abbrev pub NoneWhereNever : Type 0
NoneWhereNever =
    (world last : WorldState) (turns : List Turn) (s : ℕ) → IsSound world → NoneCloses world
    → run world turns ≡ Some last
    → s < slot_count world → (why world turns s ≡ None) ↔ (times_closed world turns s ≡ 0)

-- no slot of a world of new boxes waits for a closeack
abbrev pub NewNoneCloses : Type 0
NewNoneCloses =
    (boxes : List BoxState) (channels : List ChannelState) → AreNew boxes → NoneCloses (first_world boxes channels)

-- a close or a closeack
abbrev pub is_closing : Option Signal → Bool
is_closing (Some Close) = true
is_closing (Some Closeack) = true
is_closing signal = false

-- a turn that takes neither, and doesn't close of its own accord, changes nothing that is known of closes: so no code
-- has to look at its slots
abbrev pub OthersKeepCauses : Type 0
OthersKeepCauses =
    (world next : WorldState) (turn : Turn) (known : Known) (s : ℕ) → IsSound world → step world turn ≡ Some next
    → is_closing (taken world turn) ≡ false → begins_close world turn ≡ false
    → s < slot_count world
    → ((known_after known world turn).origins s ≡ known.origins s)
    × ((known_after known world turn).why s ≡ known.why s)
    × (waits (slot_of next s).state ≡ waits (slot_of world s).state)
