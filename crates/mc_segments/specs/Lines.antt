-- Turns and their ends as a journal.
use Rattle.std.specs.Prelude.{ℕ, ◌++◌, List, [], ◌∷◌, drop}
use Rattle.mc_box.specs.declared.event.Turn.{Turn}
use Rattle.mc_script.specs.declared.command.JournalLine.{JournalLine}
use Rattle.mc_replay.specs.Journals.{lines_for}
use Rattle.mc_segments.specs.Ends.{commands_in, turns_between}

-- the lines of the settles that begin at a place and end at these: the turns of each, with a mark after them
abbrev pub settled_lines : List Turn → ℕ → List ℕ → List JournalLine
settled_lines turns from [] = []
settled_lines turns from (place ∷ ends) = lines_for (turns_between from place turns) ++ settled_lines turns place ends

-- and the commands of each
abbrev pub settled_batches : List Turn → ℕ → List ℕ → List (List Turn)
settled_batches turns from [] = []
settled_batches turns from (place ∷ ends) =
    commands_in (turns_between from place turns) ∷ settled_batches turns place ends

-- where the last one ends
abbrev pub last_end : ℕ → List ℕ → ℕ
last_end from [] = from
last_end from (place ∷ ends) = last_end place ends

-- the turns after it
abbrev pub unsettled_turns : List Turn → List ℕ → List Turn
unsettled_turns turns ends = drop (last_end 0 ends) turns
