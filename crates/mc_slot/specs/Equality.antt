-- That `==` on goals is equality.
use Rattle.std.specs.Prelude.{◌≡◌, ◌↔◌, true}
use Rattle.mc_slot.specs.Same.{is_same_goal, is_same_slot_goal}
use Rattle.mc_slot.specs.declared.Goal.{Goal}
use Rattle.mc_slot.specs.declared.SlotGoal.{SlotGoal}

-- two goals of ends are the same just where they are equal
abbrev pub GoalEquality : Type 0
GoalEquality = (a b : Goal) → (is_same_goal a b ≡ true) ↔ (a ≡ b)

-- two goals of slots are the same just where they are equal
abbrev pub SlotGoalEquality : Type 0
SlotGoalEquality = (a b : SlotGoal) → (is_same_slot_goal a b ≡ true) ↔ (a ≡ b)
