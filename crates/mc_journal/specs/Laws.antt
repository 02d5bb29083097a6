-- What is printed is read again.
use Rattle.std.specs.Prelude.{◌≡◌, false, List}
use Rattle.std.specs.List.{All}
use Rattle.mc_text.specs.NameLists.{NameLists}
use Rattle.mc_box.specs.BoxShapes.{BoxShapeState}
use Rattle.mc_script.specs.declared.command.JournalLine.{JournalLine}
use Rattle.mc_journal.specs.Printed.{AllowsLine, IsFoundLine, print_journal}
use Rattle.mc_journal.specs.Readings.{has_bad_line, journal_lines}

-- the text is read as these lines, and no line of it is bad
abbrev pub ReadsBack : NameLists → List BoxShapeState → List JournalLine → Type 0
ReadsBack names shape lines =
    (journal_lines names shape (print_journal names lines) ≡ lines)
    × (has_bad_line names shape (print_journal names lines) ≡ false)

-- what is printed is read as the same lines, where the shape allows their commands
abbrev pub JournalsAreRead : Type 0
JournalsAreRead =
    (names : NameLists) (shape : List BoxShapeState) (lines : List JournalLine) → All (IsFoundLine names) lines
    → All (AllowsLine shape) lines → ReadsBack names shape lines
