-- What is looked at, goal by goal, of states that may be a program's.
use Rattle.std.specs.Prelude.{◌≡◌, ℕ, List, Some}
use Rattle.std.specs.List.{slice_get}
use Rattle.mc_slot.specs.declared.SlotGoal.{SlotGoal}
use Rattle.mc_rule.specs.Programs.{IsMutual}

-- the goal of this slot, if it has one, is an end's or one of two links with each other
abbrev pub IsMutualAt : List SlotGoal → ℕ → Type 0
IsMutualAt goals local = (goal : SlotGoal) → slice_get goals local ≡ Some goal → IsMutual goals local goal

abbrev pub AreMutual : List SlotGoal → Type 0
AreMutual goals = (local : ℕ) → IsMutualAt goals local
