-- A network as a settle sees it, and what a phase of it comes to.
use Rattle.std.specs.Prelude.{◌≡◌, ◌≢◌, ◌<◌, ◌++◌, ◌==◌, ℕ, Bool, false, if◌then◌else◌, List, [], ◌∷◌, length, slice_get, IfSome, IsTrue, Option, None, Some, true}
use Rattle.mc_box.specs.BoxEvents.{is_enabled, turn_of}
use Rattle.mc_box.specs.declared.event.Event.{Event}
use Rattle.mc_box.specs.declared.event.Event.TheVariants.{Media, Shift}
use Rattle.mc_box.specs.declared.event.MediaChange.TheVariants.{Hear}
use Rattle.mc_box.specs.declared.event.Turn.{Turn}
use Rattle.mc_box.specs.declared.limit.TheConstants.{SHIFT_LIMIT}
use Rattle.mc_model.specs.Settles.{can_shift, is_quiet, world_owes}
use Rattle.mc_model.specs.Worlds.{WorldState, box_at}
use Rattle.mc_merge.specs.Phases.{PlaysPhase}
use Rattle.mc_world.specs.StepAnswers.{LacksVersion}

-- its world, the commands that are left to each box, and how many Shifts each has made in the settle
pub record NetworkState : Type 0 where
  pub world : WorldState
  pub stimuli : ℕ → List Event
  pub shifts : ℕ → ℕ

abbrev pub no_stimuli : ℕ → List Event
no_stimuli who = []

abbrev pub no_shifts : ℕ → ℕ
no_shifts who = 0

-- no command is left, and no Shift was made
abbrev pub new_state : WorldState → NetworkState
new_state world = record { world = world; stimuli = no_stimuli; shifts = no_shifts }

-- with a command more, after those that its box has
abbrev pub with_command : NetworkState → Turn → NetworkState
with_command state turn = record state {
  stimuli = λ who. state.stimuli who ++ (if turn.who == who then turn.event ∷ [] else []);
}

-- no command is left
abbrev pub NoneLeft : NetworkState → Type 0
NoneLeft state = (who : ℕ) → state.stimuli who ≡ []

-- one is
abbrev pub HasCommands : NetworkState → Type 0
HasCommands state = (who : ℕ) × (state.stimuli who ≢ [])

-- no slot owes a retry
abbrev pub NoneOwes : NetworkState → Type 0
NoneOwes state = (who local : ℕ) → world_owes state.world who local ≡ false

-- the program of this box has an enabled transition, and that of no box before it
pub record IsFirstShifter (world : WorldState) (who : ℕ) : Type 0 where
  pub inside : who < length world.boxes
  pub can : is_enabled (box_at world who) Shift ≡ true
  pub least : (other : ℕ) → other < who → is_enabled (box_at world other) Shift ≡ false

-- or none has one
abbrev pub IsFirstShifterOr : WorldState → Option ℕ → Type 0
IsFirstShifterOr world (Some who) = IsFirstShifter world who
IsFirstShifterOr world None = can_shift world ≡ false

-- ---- phases

-- the next command of this box is the Hear of this slot, whose descriptor has the last version
pub record IsAtLast (state : NetworkState) (at : ℕ × ℕ) : Type 0 where
  pub on : Bool
  pub next : slice_get (state.stimuli at.0) 0 ≡ Some (Media (Hear at.1 on))
  pub lacks : LacksVersion state.world (turn_of at.0 (Media (Hear at.1 on)))

-- something is to do: a command, a Shift that a box may make, a signal that is under way, or a retry that is owed,
-- where
-- they are asked for
pub data HasWork (retries : Bool) (state : NetworkState) : Type 0 where
  by_command : (who : ℕ) → state.stimuli who ≢ [] → HasWork retries state
  by_program : (who : ℕ) → who < length state.world.boxes → state.shifts who < SHIFT_LIMIT
      → IsTrue (is_enabled (box_at state.world who) Shift) → HasWork retries state
  by_signal : is_quiet state.world ≡ false → HasWork retries state
  by_retry : IsTrue retries → (who local : ℕ) → IsTrue (world_owes state.world who local) → HasWork retries state

-- some box has used a command up
pub record UsesOne (old new : NetworkState) : Type 0 where
  pub who : ℕ
  pub fewer : length (new.stimuli who) < length (old.stimuli who)

-- a phase: a run in which each box's first commands were used in their order, its Shifts are counted, and each retry
-- that was owed came once, where they were asked for. Where something was to do a turn was made, and where commands
-- were
-- left and no retries asked for one was used up, unless a box stopped at its last version
pub record IsPhaseTo (retries : Bool) (old new : NetworkState) (made : List Turn)
    (last : Option (ℕ × ℕ)) : Type 0 where
  pub plays : PlaysPhase retries old.world new.world made old.stimuli new.stimuli old.shifts new.shifts
  pub at_last : IfSome last (IsAtLast new)
  pub moved : last ≡ None → HasWork retries old → made ≢ []
  pub used : last ≡ None → retries ≡ false → HasCommands old → UsesOne old new

-- whose turns come after those before
pub record PlaysOn (retries : Bool) (old new : NetworkState) (before after : List Turn)
    (last : Option (ℕ × ℕ)) : Type 0 where
  pub made : List Turn
  pub added : after ≡ before ++ made
  pub phase : IsPhaseTo retries old new made last
