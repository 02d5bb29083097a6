-- The derived == on goals is equality.
use Rattle.std.proofs.Common.{◌≡◌, true, refl, subst, arith}
use Rattle.std.proofs.lemmas.Grind.{common_steps}
use Rattle.mc_slot.specs.Equality.{GoalEquality, SlotGoalEquality}
use Rattle.mc_slot.specs.Same.{is_same_goal, is_same_slot_goal}
use Rattle.mc_slot.specs.declared.Goal.{Goal}
use Rattle.mc_slot.specs.declared.Goal.TheVariants.{Open as ToOpen, Close as ToClose, Hold as ToHold}
use Rattle.mc_slot.specs.declared.SlotGoal.{SlotGoal}
use Rattle.mc_slot.specs.declared.SlotGoal.TheVariants.{End, Link}

-- goals of ends that == calls the same are equal
goal_eq : (a b : Goal) → is_same_goal a b ≡ true → a ≡ b
goal_eq ToOpen ToOpen same = refl
goal_eq ToOpen ToClose same = absurd (cc)
goal_eq ToOpen ToHold same = absurd (cc)
goal_eq ToClose ToOpen same = absurd (cc)
goal_eq ToClose ToClose same = refl
goal_eq ToClose ToHold same = absurd (cc)
goal_eq ToHold ToOpen same = absurd (cc)
goal_eq ToHold ToClose same = absurd (cc)
goal_eq ToHold ToHold same = refl

-- each goal of an end is the same as itself
goal_refl : (goal : Goal) → is_same_goal goal goal ≡ true
goal_refl ToOpen = refl
goal_refl ToClose = refl
goal_refl ToHold = refl

-- goals of slots that == calls the same are equal
pub slot_goal_eq : (a b : SlotGoal) → is_same_slot_goal a b ≡ true → a ≡ b
slot_goal_eq (End ToOpen) (End ToOpen) same = refl
slot_goal_eq (End ToOpen) (End ToClose) same = absurd (cc)
slot_goal_eq (End ToOpen) (End ToHold) same = absurd (cc)
slot_goal_eq (End ToClose) (End ToOpen) same = absurd (cc)
slot_goal_eq (End ToClose) (End ToClose) same = refl
slot_goal_eq (End ToClose) (End ToHold) same = absurd (cc)
slot_goal_eq (End ToHold) (End ToOpen) same = absurd (cc)
slot_goal_eq (End ToHold) (End ToClose) same = absurd (cc)
slot_goal_eq (End ToHold) (End ToHold) same = refl
slot_goal_eq (End goal) (Link partner) same = absurd (cc)
slot_goal_eq (Link partner) (End goal) same = absurd (cc)
slot_goal_eq (Link p) (Link q) same = grind (arith, common_steps)

-- each goal of a slot is the same as itself
pub slot_goal_refl : (goal : SlotGoal) → is_same_slot_goal goal goal ≡ true
slot_goal_refl (End ToOpen) = refl
slot_goal_refl (End ToClose) = refl
slot_goal_refl (End ToHold) = refl
slot_goal_refl (Link p) = grind (arith, common_steps)

pub goal_equality : GoalEquality
goal_equality a b = (goal_eq a b, λ same. subst (λ (g : Goal). is_same_goal a g ≡ true) same (goal_refl a))

pub slot_goal_equality : SlotGoalEquality
slot_goal_equality a b = (slot_goal_eq a b, λ same. subst (λ (g : SlotGoal). is_same_slot_goal a g ≡ true) same (slot_goal_refl a))
