-- What a page shows at a row: what its rows say up to there, one after the other.
use Rattle.std.specs.Prelude.{◌≡◌, ℕ, List, [], ◌∷◌, take}
use Rattle.mc_model.specs.Sound.{IsSound}
use Rattle.mc_model.specs.Worlds.{WorldState}
use Rattle.mc_program_lines.specs.Programs.{BlockState}
use Rattle.mc_script.specs.declared.command.JournalLine.{JournalLine}
use Rattle.mc_text.specs.NameLists.{NameLists}
use Rattle.mc_ladder_choice.specs.Entries.{world_after}
use Rattle.mc_ladder_page.specs.Cells.{cells_of}
use Rattle.mc_ladder_page.specs.Changes.{CellChange, with_changes}
use Rattle.mc_ladder_page.specs.Data.{first_changes, line_changes}

-- the changes of each line
abbrev pub changes_along : NameLists → List BlockState → WorldState → List JournalLine → List (List CellChange)
changes_along names blocks world [] = []
changes_along names blocks world (line ∷ lines) =
    line_changes names blocks world line ∷ changes_along names blocks (world_after world line) lines

-- the world after these lines
abbrev pub world_by : WorldState → List JournalLine → WorldState
world_by world [] = world
world_by world (line ∷ lines) = world_by (world_after world line) lines

-- the cells after these rows
abbrev pub cells_after : List (List ℕ) → List (List CellChange) → List (List ℕ)
cells_after cells [] = cells
cells_after cells (row ∷ rows) = cells_after (with_changes cells row) rows

-- from a sound world on, the rows of a page up to that of any line give, one after the other, the cells of the world
-- after that line
abbrev pub RowsGiveWorlds : Type 0
RowsGiveWorlds =
    (names : NameLists) (blocks : List BlockState) (world : WorldState) (journal : List JournalLine) (k : ℕ)
    → IsSound world
    → cells_after [] (first_changes names blocks world ∷ take k (changes_along names blocks world journal))
    ≡ cells_of names blocks (world_by world (take k journal))
