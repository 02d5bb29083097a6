-- The fault of a journal as that of the journal after a text.
use Rattle.std.proofs.Common.{◌≡◌, ℕ, Bool, List, subst}
use Rattle.mc_box.specs.BoxShapes.{BoxShapeState}
use Rattle.mc_box.specs.declared.event.Turn.{Turn}
use Rattle.mc_model.specs.Worlds.{WorldState}
use Rattle.mc_replay.specs.Faults.{IsJournalFault, RefusesLines, StandsFor}
use Rattle.mc_replay.specs.declared.fault.JournalFault.{JournalFault}
use Rattle.mc_replay.specs.declared.fault.ReplayFault.TheVariants as replay
use Rattle.mc_script.specs.declared.command.JournalLine.{JournalLine}
use Rattle.mc_text.specs.NameLists.{NameLists}
use Rattle.mc_call.specs.Behind.{has_bad_tail, journal_line, tail_lines}
use Rattle.mc_top.specs.Refusals.{RefusesTail}
use Rattle.mc_top.specs.declared.checking.TailFault.TheVariants as tail

-- what refuses the lines that were read after a text refuses them there, with the line of the text
pub refuses_tail : (names : NameLists) (shape : List BoxShapeState) (world : WorldState) (batches : List (List Turn)) (text : List ℕ) (rest : ℕ) (lines : List JournalLine) (bad : Bool) (fault : JournalFault) (line : ℕ)
    → lines ≡ tail_lines names shape text rest → bad ≡ has_bad_tail names shape text rest → RefusesLines world batches lines bad (replay.At fault) → line ≡ journal_line names shape text rest fault.before
    → RefusesTail names shape world batches text rest (tail.At (record { number = fault.number; turn = fault.turn; line = line }))
refuses_tail names shape world batches text rest lines bad fault line are is refuses at = (
  subst (λ (b : Bool). IsJournalFault world batches (tail_lines names shape text rest) b fault.number fault.turn) is
      (subst (λ (l : List JournalLine). IsJournalFault world batches l bad fault.number fault.turn) are refuses.0),
  (fault.before, subst (λ (l : List JournalLine). StandsFor world batches l fault.before) are refuses.1, at),
)
