-- Causes as code carries them: beside each close under way the turn from which it came.
use Rattle.std.specs.Prelude.{◌≡◌, ◌<◌, ℕ, List, length, slice_index_or, Option, Some, None}
use Rattle.std.specs.List.{last_or}
use Rattle.std.specs.Option.{unwrap_or}
use Rattle.mc_slot.specs.declared.State.{State}
use Rattle.mc_slot.specs.declared.State.TheVariants.{Closing}
use Rattle.mc_box.specs.declared.event.Turn.{Turn}
use Rattle.mc_model.specs.Sound.{IsSound}
use Rattle.mc_model.specs.Steps.{run, step}
use Rattle.mc_model.specs.Worlds.{WorldState, far, slot_count, slot_of}
use Rattle.mc_cause.specs.Causes.{known_from, none_known, why}
use Rattle.mc_cause.specs.CauseLaws.{NoneCloses}

-- how many turns were made, and of each slot from which turn its close under way came, and why it is closed
pub record WhysState : Type 0 where
  pub turns : ℕ
  pub origins : List (Option ℕ)
  pub whys : List (Option ℕ)

-- a world, with why its closed slots are closed
pub record CausesState : Type 0 where
  pub world : WorldState
  pub whys : WhysState

-- both lists have a place for each slot
pub record AreOfSlots (world : WorldState) (kept : WhysState) : Type 0 where
  pub origins : length kept.origins ≡ slot_count world
  pub whys : length kept.whys ≡ slot_count world

-- a slot that waits for a closeack carries from which turn its last close came, and another slot nothing
abbrev pub carried_in : State → Option ℕ → Option ℕ
carried_in Closing origin = origin
carried_in state origin = None

-- these are the causes of these turns, which lead to a world from one of which no slot waits for a closeack
pub record TellsCauses (first : WorldState) (turns : List Turn) (last : WorldState) (causes : WhysState) : Type 0 where
  pub sound : IsSound first
  pub none : NoneCloses first
  pub runs : run first turns ≡ Some last
  pub count : causes.turns ≡ length turns
  pub origins : (s : ℕ) → s < slot_count last
      → slice_index_or causes.origins s None
      ≡ carried_in (slot_of last s).state (last_or None ((known_from none_known first turns).origins s))
  pub whys : (s : ℕ) → s < slot_count last → slice_index_or causes.whys s None ≡ why first turns s

-- ---- one turn

-- the turn has led from one world to another
pub record HasHappened (before next : WorldState) (turn : Turn) : Type 0 where
  pub sound : IsSound before
  pub goes : step before turn ≡ Some next

-- it has led to this world, from one of which these tables have a place for each slot
abbrev pub IsAfterTurn : WorldState → Turn → WhysState → Type 0
IsAfterTurn next turn whys = (before : WorldState) × HasHappened before next turn × AreOfSlots before whys

-- from which turn the close comes that a slot takes in a turn of this number: the far slot carries it
abbrev pub origin_at : List (Option ℕ) → (slot number : ℕ) → ℕ
origin_at origins slot number = unwrap_or (slice_index_or origins (far slot) None) number

-- what a slot carries after a turn: nothing where it waits for no closeack, what it carried where it waited before, and
-- else the turn from which its close came now
abbrev pub noted : State → Option ℕ → ℕ → Option ℕ
noted Closing None origin = Some origin
noted Closing (Some old) origin = Some old
noted state old origin = None
