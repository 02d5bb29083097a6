-- Where the links that are named close no chain with the tunnels, no script stops at a ring.
use Rattle.std.proofs.Common.{ℕ, List, [], ◌∷◌, Contains, inl, inr}
use Rattle.std.specs.List.{AllByRecursion}
use Rattle.std.proofs.lemmas.List.Elements.{All-contains_itself, recursion_from_All}
use Rattle.mc_box.specs.declared.event.Turn.{Turn}
use Rattle.mc_laws.proofs.Chains.{first_named, named_links_close_none, run_keeps_named, used_up_come}
use Rattle.mc_laws.proofs.StepKeeps.{run_keeps_sound}
use Rattle.mc_laws.specs.Chains.{ClosesNoChain, LinksAreNamed}
use Rattle.mc_model.specs.Sound.{IsSound}
use Rattle.mc_model.specs.Worlds.{WorldState}
use Rattle.mc_script.specs.declared.command.JournalLine.{JournalLine}
use Rattle.mc_script_end.specs.Journals.{IsStoppedJournal}
use Rattle.mc_seq.specs.declared.stopping.SettleStop.TheVariants.{Ring}

-- in the first of the batches that are left, or in a later one
closes_by : (all batches : List (List Turn)) (start world : WorldState) (at : ℕ) (journal : List JournalLine) → IsSound world → LinksAreNamed start all world → AllByRecursion (Contains all) batches → ClosesNoChain start all
    → IsStoppedJournal (Ring at) world batches journal → ⊥
closes_by all [] start world at journal sound named among closes stopped = stopped
closes_by all (batch ∷ batches) start world at journal sound named among closes (inl here) =
    let come = used_up_come all batch here.turns among.0 here.cause.0 in
    let later = run_keeps_named start world here.last all here.turns sound named come here.stopped.runs in
    (named_links_close_none start here.last all (run_keeps_sound world here.last here.turns sound here.stopped.runs) later closes).1 at here.cause.1
closes_by all (batch ∷ batches) start world at journal sound named among closes (inr (turns, last, rest, is, settled, later)) =
    closes_by all batches start last at rest (run_keeps_sound world last turns sound settled.runs)
    (run_keeps_named start world last all turns sound named (used_up_come all batch turns among.0 settled.commands) settled.runs) among.1 closes later

pub closes_none : (batches : List (List Turn)) (world : WorldState) (at : ℕ) (journal : List JournalLine) → IsSound world → IsStoppedJournal (Ring at) world batches journal → ClosesNoChain world batches → ⊥
closes_none batches world at journal sound stopped closes =
    closes_by batches batches world world at journal sound (first_named world batches) (recursion_from_All (Contains batches) batches (All-contains_itself batches)) closes stopped
