-- The program of a box: states, each with a goal for every slot and transitions in order, and which transition is
-- enabled.
use Rattle.std.specs.Prelude.{◌≡◌, ◌≢◌, ◌<◌, ◌≤◌, ◌==◌, ℕ, Bool, true, false, List, [], All, length, slice_index_or, Option, Some, None}
use Rattle.std.specs.List.{find, slice_get}
use Rattle.std.specs.Option.{option_map}
use Rattle.mc_slot.specs.declared.Slot.{Slot}
use Rattle.mc_slot.specs.declared.SlotGoal.{SlotGoal}
use Rattle.mc_slot.specs.declared.SlotGoal.TheVariants.{End, Link}
use Rattle.mc_slot.specs.declared.State.{State}
use Rattle.mc_slot.specs.contracts.StatePartialEq.TheImpl as state
use Rattle.mc_rule.specs.declared.Guard.{Guard}
use Rattle.mc_rule.specs.declared.Guard.TheVariants.{SlotIs, Told}
use Rattle.mc_rule.specs.declared.Rule.{Rule}
use Rattle.mc_rule.specs.declared.Shifted.{Shifted}
use Rattle.mc_rule.specs.declared.TheConstants.{RULE_LIMIT, STATE_LIMIT}

-- a state of a program: the goal of each slot, and its transitions in order
pub record ProgStateState : Type 0 where
  pub goals : List SlotGoal
  pub rules : List Rule

-- ---- programs

-- a goal of a slot among goals: an end's, or a link with another slot whose goal is the link back
abbrev pub IsMutual : List SlotGoal → ℕ → SlotGoal → Type 0
IsMutual goals local (End goal) = Unit {0}
IsMutual goals local (Link partner) = (partner ≢ local) × (slice_get goals partner ≡ Some (Link local))

-- a guard names a slot that is there
abbrev pub NamesSlot : ℕ → Guard → Type 0
NamesSlot slots (SlotIs local in_state) = local < slots
NamesSlot slots (Told word) = Unit {0}

-- a state of a program of so many slots and states
pub record IsState (slots states : ℕ) (one : ProgStateState) : Type 0 where
  pub goals : length one.goals ≡ slots
  pub links : (local : ℕ) → (goal : SlotGoal) → slice_get one.goals local ≡ Some goal → IsMutual one.goals local goal
  pub few : length one.rules ≤ RULE_LIMIT
  pub targets : All (λ rule. rule.target < states) one.rules
  pub guards : All (λ rule. NamesSlot slots rule.guard) one.rules

-- a program: one state or more, all of them for the slots of one box
pub record IsProgram (states : List ProgStateState) : Type 0 where
  pub some : 0 < length states
  pub few : length states ≤ STATE_LIMIT
  pub slots : ℕ
  pub each : All (IsState slots (length states)) states

-- ---- which transition is enabled

abbrev pub is_same_state : State → State → Bool
is_same_state = (state.ghosts).eq

-- a slot that is there is in this state
abbrev pub is_in : Option Slot → State → Bool
is_in None in_state = false
is_in (Some slot) in_state = is_same_state slot.state in_state

-- the kept told word, if any, is this one
abbrev pub is_told : Option ℕ → ℕ → Bool
is_told None word = false
is_told (Some told) word = told == word

-- a guard holds of the slots of a box and of its told word
abbrev pub holds : List Slot → Option ℕ → Guard → Bool
holds slots told (SlotIs local in_state) = is_in (slice_get slots local) in_state
holds slots told (Told word) = is_told told word

-- a transition by a told word uses it up
abbrev pub spends : Guard → Bool
spends (SlotIs local in_state) = false
spends (Told word) = true

abbrev pub shifted_by : Rule → Shifted
shifted_by rule = record { target = rule.target; spends = spends rule.guard }

-- to the first state, which takes no guard
abbrev pub begins : Shifted
begins = record { target = 0; spends = false }

abbrev pub no_state : ProgStateState
no_state = record { goals = []; rules = [] }

-- the first transition whose guard holds
abbrev pub first_that_holds : List Rule → List Slot → Option ℕ → Option Rule
first_that_holds rules slots told = find (λ rule. holds slots told rule.guard) rules

-- the enabled transition: at no state the one to the first state, and at a state the first whose guard holds
abbrev pub enabled : List ProgStateState → Option ℕ → List Slot → Option ℕ → Option Shifted
enabled states None slots told = Some begins
enabled states (Some at) slots told =
    option_map shifted_by (first_that_holds (slice_index_or states at no_state).rules slots told)
