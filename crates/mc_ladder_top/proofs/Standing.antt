-- How many lines of a journal may stand where they do.
use Rattle.std.proofs.Common.{List, arith, length, subst, sym}
use Rattle.std.proofs.lemmas.List.{take_all}
use Rattle.mc_box.specs.declared.event.Turn.{Turn}
use Rattle.mc_model.specs.Worlds.{WorldState}
use Rattle.mc_replay.proofs.Good.{journal_may}
use Rattle.mc_replay.specs.Faults.{StandsFor}
use Rattle.mc_replay.specs.Journals.{IsJournal}
use Rattle.mc_replay.specs.Points.{AllMayStand, first_point}
use Rattle.mc_script.specs.declared.command.JournalLine.{JournalLine}

-- all lines of a journal of the batches
pub all_stand : (world : WorldState) (batches : List (List Turn)) (lines : List JournalLine) → IsJournal world batches lines → StandsFor world batches lines (length lines)
all_stand world batches lines is = record {
  within = omega arith;
  may = subst (AllMayStand (first_point world batches)) (sym (take_all (length lines) lines (omega arith))) (journal_may batches world lines is);
  last = λ more all. absurd (omega (arith, more));
}
