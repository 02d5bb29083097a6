-- When two goals are the same, of ends and of slots: what `==` answers.
use Rattle.std.specs.Prelude.{Bool}
use Rattle.mc_slot.specs.declared.Goal.{Goal}
use Rattle.mc_slot.specs.declared.SlotGoal.{SlotGoal}
use Rattle.mc_slot.specs.contracts.GoalPartialEq.TheImpl as goal
use Rattle.mc_slot.specs.contracts.SlotGoalPartialEq.TheImpl as slot_goal

abbrev pub is_same_goal : Goal → Goal → Bool
is_same_goal = (goal.ghosts).eq

abbrev pub is_same_slot_goal : SlotGoal → SlotGoal → Bool
is_same_slot_goal = (slot_goal.ghosts).eq
