-- The segments of a journal: the turns of each settle, and those after the last mark.
use Rattle.std.specs.Prelude.{List, [], ◌∷◌}
use Rattle.std.specs.List.{All}
use Rattle.mc_box.specs.declared.event.Turn.{Turn}
use Rattle.mc_script.specs.declared.command.JournalLine.{JournalLine}
use Rattle.mc_script.specs.declared.command.JournalLine.TheVariants.{Turn as Made, Settled}
use Rattle.mc_seq.specs.ShiftLimit.{KeepsShiftLimit}

-- a turn more, in front of the first segment
abbrev pub in_first : Turn → List (List Turn) → List (List Turn)
in_first turn [] = (turn ∷ []) ∷ []
in_first turn (first ∷ others) = (turn ∷ first) ∷ others

-- the turns up to each mark, and those after the last one
abbrev pub segments : List JournalLine → List (List Turn)
segments [] = [] ∷ []
segments (Made turn ∷ journal) = in_first turn (segments journal)
segments (Settled ∷ journal) = [] ∷ segments journal

-- in each segment no box makes more than SHIFT_LIMIT Shifts
abbrev pub EachKeepsShiftLimit : List JournalLine → Type 0
EachKeepsShiftLimit journal = All KeepsShiftLimit (segments journal)
