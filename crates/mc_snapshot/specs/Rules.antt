-- The forms of a program's transitions and states.
use Rattle.std.specs.Prelude.{ℕ, ◌<◌, ◌^◌, List, ◌∷◌}
use Rattle.mc_entry.specs.Wire.{word4}
use Rattle.mc_rule.specs.Programs.{ProgStateState}
use Rattle.mc_rule.specs.declared.Guard.{Guard}
use Rattle.mc_rule.specs.declared.Guard.TheVariants.{SlotIs, Told}
use Rattle.mc_rule.specs.declared.Rule.{Rule}
use Rattle.mc_snapshot.specs.Forms.{FitsList, list_wire}
use Rattle.mc_snapshot.specs.Kinds.{state_number}
use Rattle.mc_snapshot.specs.Slots.{FitsGoal, goal_wire}

-- 3 bytes
abbrev pub guard_wire : Guard → List ℕ → List ℕ
guard_wire (SlotIs local state) more = 0 ∷ local ∷ state_number state ∷ more
guard_wire (Told word) more = 1 ∷ word ∷ 0 ∷ more

abbrev pub FitsGuard : Guard → Type 0
FitsGuard (SlotIs local state) = local < 2 ^ 8
FitsGuard (Told word) = word < 2 ^ 8

-- 7 bytes
abbrev pub rule_wire : Rule → List ℕ → List ℕ
rule_wire rule more = guard_wire rule.guard (word4 rule.target more)

pub record FitsRule (rule : Rule) : Type 0 where
  pub guard : FitsGuard rule.guard
  pub target : rule.target < 2 ^ 32

-- the goals of a state, and its transitions
abbrev pub state_wire : ProgStateState → List ℕ → List ℕ
state_wire state more = list_wire goal_wire state.goals (list_wire rule_wire state.rules more)

pub record FitsState (state : ProgStateState) : Type 0 where
  pub goals : FitsList FitsGoal state.goals
  pub rules : FitsList FitsRule state.rules
