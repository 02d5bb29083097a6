-- What no step changes: the channels of a world, and the shapes of its boxes. Which commands these allow.
use Rattle.std.specs.Prelude.{◌≡◌, ◌<◌, ◌⊎◌, ℕ, ◌&&◌, Bool, List, length, nat_lt, Some, IsSome, IsTrue}
use Rattle.std.specs.List.{All, list_all}
use Rattle.mc_box.specs.Acting.{IsAlike}
use Rattle.mc_box.specs.BoxShapes.{box_shape, is_enabled_by}
use Rattle.mc_box.specs.Boxes.{slot_owes}
use Rattle.mc_model.specs.Sound.{IsSound}
use Rattle.mc_model.specs.Steps.{ends_version, run, step}
use Rattle.mc_model.specs.Worlds.{WorldState, box_at, goal_of, place, slot_count, slot_of}
use Rattle.mc_box.specs.declared.event.Event.TheVariants.{Retry}
use Rattle.mc_box.specs.declared.event.Turn.{Turn}

-- a world of the same channels and of as many boxes, each alike
pub record HasShape (new old : WorldState) : Type 0 where
  pub channels : new.channels ≡ old.channels
  pub boxes : length new.boxes ≡ length old.boxes
  pub alike : (who : ℕ) → IsAlike (box_at new who) (box_at old who)

-- a turn changes no shape, and no program
abbrev pub StepKeepsShape : Type 0
StepKeepsShape =
    (world next : WorldState) (turn : Turn) → IsSound world → step world turn ≡ Some next → HasShape next world

-- nor does a run
abbrev pub RunKeepsShape : Type 0
RunKeepsShape =
    (world next : WorldState) (turns : List Turn) → IsSound world → run world turns ≡ Some next → HasShape next world

-- a command for a box that is there, which the shape of the box enables
abbrev pub is_allowed : WorldState → Turn → Bool
is_allowed world turn =
    nat_lt turn.who (length world.boxes) && is_enabled_by (box_shape (box_at world turn.who)) turn.event

-- a world allows each command of a batch
abbrev pub AreAllowed : WorldState → List Turn → Type 0
AreAllowed world batch = IsTrue (list_all (is_allowed world) batch)

-- and of each of several batches
abbrev pub AreAllAllowed : WorldState → List (List Turn) → Type 0
AreAllAllowed world batches = All (AreAllowed world) batches

-- such a command can happen at any time, unless it is a Hear of a slot that has the last version
abbrev pub CommandGoes : Type 0
CommandGoes =
    (world : WorldState) (turn : Turn) → IsSound world → IsTrue (is_allowed world turn)
    → IsSome (step world turn) ⊎ IsTrue (ends_version world turn)

-- whether a slot owes a retry, by its number
abbrev pub owes_by_number : WorldState → ℕ → Bool
owes_by_number world s = slot_owes (goal_of world s) (slot_of world s)

-- the retry of a slot, by its number
abbrev pub retry_of : WorldState → ℕ → Turn
retry_of world s = record { who = (place world s).0; event = Retry (place world s).1 }

-- it can happen where it is owed
abbrev pub RetryGoes : Type 0
RetryGoes =
    (world : WorldState) (s : ℕ) → IsSound world → s < slot_count world → IsTrue (owes_by_number world s)
    → IsSome (step world (retry_of world s))
