-- Where no batch leaves a ring, no script stops at one.
use Rattle.std.proofs.Common.{ℕ, List, [], ◌∷◌, inl, inr}
use Rattle.mc_box.specs.declared.event.Turn.{Turn}
use Rattle.mc_laws.proofs.NoPrograms.{still_none}
use Rattle.mc_laws.proofs.ShapesKept.{run_keeps_shape}
use Rattle.mc_laws.proofs.StepKeeps.{run_keeps_sound}
use Rattle.mc_model.specs.Sound.{IsSound}
use Rattle.mc_model.specs.Unprogrammed.{HasNoPrograms}
use Rattle.mc_model.specs.Worlds.{WorldState}
use Rattle.mc_script.specs.declared.command.JournalLine.{JournalLine}
use Rattle.mc_settings.specs.Batches.{LeavesNoRing}
use Rattle.mc_settings.proofs.BatchesLeft.{no_ring_is_met, no_ring_stays}
use Rattle.mc_script_end.specs.Journals.{IsStoppedJournal}
use Rattle.mc_seq.specs.declared.stopping.SettleStop.TheVariants.{Ring}

-- in the first of the batches, or in a later one
pub stopped_leaves : (batches : List (List Turn)) (world : WorldState) (at : ℕ) (journal : List JournalLine) → IsSound world → HasNoPrograms world → IsStoppedJournal (Ring at) world batches journal → LeavesNoRing world batches → ⊥
stopped_leaves [] world at journal sound unprogrammed stopped none = stopped
stopped_leaves (batch ∷ batches) world at journal sound unprogrammed (inl here) none =
    let met = no_ring_is_met world here.last batch here.turns batches sound unprogrammed none (record { runs = here.stopped.runs; commands = here.cause.0 }) in
    met.1 at here.cause.1.inside here.cause.1.on
stopped_leaves (batch ∷ batches) world at journal sound unprogrammed (inr (turns, last, rest, is, settled, later)) none =
    stopped_leaves batches last at rest (run_keeps_sound world last turns sound settled.runs) (still_none last world (run_keeps_shape world last turns sound settled.runs) unprogrammed) later
    (no_ring_stays world last batch turns batches sound unprogrammed none settled)
