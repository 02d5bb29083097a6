-- Journals whose segments keep the limit of Shifts.
use Rattle.std.proofs.Common.{◌≡◌, ◌++◌, List, [], ◌∷◌, map, refl, ap, sym, subst, arith}
use Rattle.std.specs.List.{All}
use Rattle.std.proofs.lemmas.List.Elements.{All-cons, All-nil}
use Rattle.mc_box.specs.declared.event.Turn.{Turn}
use Rattle.mc_script.specs.declared.command.JournalLine.{JournalLine}
use Rattle.mc_script.specs.declared.command.JournalLine.TheVariants.{Turn as Made}
use Rattle.mc_replay.specs.Journals.{lines_for}
use Rattle.mc_replay.specs.Segments.{EachKeepsShiftLimit, in_first, segments}
use Rattle.mc_seq.specs.ShiftLimit.{KeepsShiftLimit}

-- turns alone are one segment
segments_made : (turns : List Turn) → segments (map Made turns) ≡ turns ∷ []
segments_made [] = refl
segments_made (turn ∷ turns) = ap (in_first turn) (segments_made turns)

-- and with a mark after them they are the first one
segments_settled : (turns : List Turn) (rest : List JournalLine) → segments (lines_for turns ++ rest) ≡ turns ∷ segments rest
segments_settled [] rest = refl
segments_settled (turn ∷ turns) rest = ap (in_first turn) (segments_settled turns rest)

-- the turns up to a stop
pub limit_made : (turns : List Turn) → KeepsShiftLimit turns → EachKeepsShiftLimit (map Made turns)
limit_made turns kept = subst (λ (each : List (List Turn)). All KeepsShiftLimit each) (sym (segments_made turns)) (All-cons KeepsShiftLimit turns [] kept (All-nil KeepsShiftLimit))

-- none at all
pub limit_none : EachKeepsShiftLimit []
limit_none = limit_made [] (λ who. omega arith)

-- a settle, and what comes after it
pub limit_settled : (turns : List Turn) (rest : List JournalLine) → KeepsShiftLimit turns → EachKeepsShiftLimit rest → EachKeepsShiftLimit (lines_for turns ++ rest)
limit_settled turns rest kept others = subst (λ (each : List (List Turn)). All KeepsShiftLimit each) (sym (segments_settled turns rest)) (All-cons KeepsShiftLimit turns (segments rest) kept others)
