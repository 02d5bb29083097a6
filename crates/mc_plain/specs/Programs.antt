-- What the numbers of a program say.
use Rattle.std.specs.Prelude.{◌==◌, ◌&&◌, ℕ, Bool, true, false, not, if◌then◌else◌, zero, suc, List, [], ◌∷◌, length, map, nat_le, nat_lt, take, Option, Some, None}
use Rattle.std.specs.List.{list_all, slice_get}
use Rattle.mc_slot.specs.declared.Goal.{Goal}
use Rattle.mc_slot.specs.declared.Goal.TheVariants.{Open, Close, Hold}
use Rattle.mc_slot.specs.declared.SlotGoal.{SlotGoal}
use Rattle.mc_slot.specs.declared.SlotGoal.TheVariants.{End, Link}
use Rattle.mc_slot.specs.declared.State.{State}
use Rattle.mc_slot.specs.declared.State.TheVariants.{Closed, Opening, Opened, Flowing, Closing}
use Rattle.mc_rule.specs.Programs.{ProgStateState}
use Rattle.mc_rule.specs.declared.Guard.{Guard}
use Rattle.mc_rule.specs.declared.Guard.TheVariants.{SlotIs, Told}
use Rattle.mc_rule.specs.declared.Rule.{Rule}
use Rattle.mc_rule.specs.declared.TheConstants.{RULE_LIMIT, STATE_LIMIT}
use Rattle.mc_plain.specs.declared.asked.PlainSlot.{PlainSlot}
use Rattle.mc_plain.specs.declared.program.PlainGoal.{PlainGoal}
use Rattle.mc_plain.specs.declared.program.PlainRule.{PlainRule}
use Rattle.mc_plain.specs.declared.program.PlainState.{PlainState}

-- ---- what is said

abbrev pub end_goal_of : ℕ → Goal
end_goal_of number = if number == 0 then Open else if number == 1 then Close else Hold

abbrev pub slot_goal_of : PlainGoal → SlotGoal
slot_goal_of plain = if plain.goal == 3 then Link plain.partner else End (end_goal_of plain.goal)

abbrev pub slot_state_of : ℕ → State
slot_state_of number =
    if number == 0 then Closed else if number == 1 then Opening else
    if number == 2 then Opened else if number == 3 then Flowing else Closing

abbrev pub guard_of : PlainRule → Guard
guard_of plain = if plain.guard == 0 then SlotIs plain.first (slot_state_of plain.second) else Told plain.first

abbrev pub rule_of : PlainRule → Rule
rule_of plain = record { guard = guard_of plain; target = plain.target }

-- the goals of a state, one for each slot, and its transitions
abbrev pub goals_named : ℕ → PlainState → List PlainGoal
goals_named slots plain = take slots plain.goals

abbrev pub rules_named : PlainState → List PlainRule
rules_named plain = take plain.count plain.rules

abbrev pub state_of : ℕ → PlainState → ProgStateState
state_of slots plain = record {
  goals = map slot_goal_of (goals_named slots plain);
  rules = map rule_of (rules_named plain);
}

abbrev pub states_of : ℕ → List PlainState → List ProgStateState
states_of slots plains = map (state_of slots) plains

-- the program of so many slots; no states are none
abbrev pub program_of : ℕ → List PlainState → Option (List ProgStateState)
program_of slots [] = None
program_of slots (plain ∷ plains) = Some (states_of slots (plain ∷ plains))

-- ---- whether something is said

-- a slot of this medium, and a goal that links to this slot
abbrev pub has_medium : ℕ → Option PlainSlot → Bool
has_medium medium None = false
has_medium medium (Some slot) = slot.medium == medium

abbrev pub links_to : ℕ → Option PlainGoal → Bool
links_to local None = false
links_to local (Some goal) = goal.goal == 3 && goal.partner == local

-- another slot of the same medium, whose goal is the link back
abbrev pub is_partner : List PlainSlot → List PlainGoal → (local medium partner : ℕ) → Bool
is_partner slots goals local medium partner =
    not (partner == local) && has_medium medium (slice_get slots partner) && links_to local (slice_get goals partner)

-- a goal of a slot: an end's, or a link with such another
abbrev pub is_goal_of : List PlainSlot → List PlainGoal → ℕ → Option PlainSlot → Option PlainGoal → Bool
is_goal_of slots goals local (Some slot) (Some goal) =
    if goal.goal == 3 then is_partner slots goals local slot.medium goal.partner else nat_lt goal.goal 3
is_goal_of slots goals local slot goal = false

abbrev pub is_goal_at : List PlainSlot → List PlainGoal → ℕ → Bool
is_goal_at slots goals local = is_goal_of slots goals local (slice_get slots local) (slice_get goals local)

-- every number below a count passes a test
abbrev pub each_below : ℕ → (ℕ → Bool) → Bool
each_below zero test = true
each_below (suc count) test = each_below count test && test count

abbrev pub are_goals : List PlainSlot → List PlainGoal → Bool
are_goals slots goals = each_below (length slots) (is_goal_at slots goals)

-- a transition to one of so many states, which waits for a slot that is there, or for a word
abbrev pub is_rule : (slots states : ℕ) → PlainRule → Bool
is_rule slots states plain =
    nat_lt plain.target states
    && (if plain.guard == 0 then nat_lt plain.first slots && nat_lt plain.second 5 else plain.guard == 1)

abbrev pub is_state : List PlainSlot → (states : ℕ) → PlainState → Bool
is_state slots states plain =
    nat_le plain.count RULE_LIMIT && are_goals slots (goals_named (length slots) plain)
    && list_all (is_rule (length slots) states) (rules_named plain)

-- a program of at most 64 states, or none at all
abbrev pub is_program : ℕ → List PlainSlot → List PlainState → Bool
is_program kind slots [] = true
is_program kind slots (plain ∷ plains) =
    kind == 1 && nat_le (length (plain ∷ plains)) STATE_LIMIT
    && list_all (is_state slots (length (plain ∷ plains))) (plain ∷ plains)
