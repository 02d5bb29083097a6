-- A loop that changes goals one after another.
use Rattle.std.proofs.Common.{ℕ, List, ◌++◌, drop, take}
use Rattle.mc_slot.specs.declared.SlotGoal.{SlotGoal}
use Rattle.mc_box.specs.Goals.{goals_from}
use Rattle.mc_box.specs.declared.event.Change.{Change}

-- the goals before a place are changed, and the others still to be
abbrev pub changing : Change → ℕ → List SlotGoal → List SlotGoal
changing change i goals = take i goals ++ goals_from change i (drop i goals)
