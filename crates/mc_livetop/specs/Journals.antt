-- Journals of scripts that are run live: the commands of each batch came in an order of it.
use Rattle.std.specs.Prelude.{◌≡◌, ◌⊎◌, ℕ, List, [], ◌∷◌, ◌++◌, map, Option, Some, None}
use Rattle.mc_box.specs.declared.event.Turn.{Turn}
use Rattle.mc_live_settle.specs.Orders.{AreOrdersOf}
use Rattle.mc_live_settle.specs.Settles.{SettlesLive, StopsLive}
use Rattle.mc_model.specs.Worlds.{WorldState}
use Rattle.mc_replay.specs.Journals.{IsJournal, lines_for}
use Rattle.mc_script.specs.declared.command.JournalLine.{JournalLine}
use Rattle.mc_script.specs.declared.command.JournalLine.TheVariants.{Turn as Made}
use Rattle.mc_seq.specs.declared.stopping.SettleStop.{SettleStop}

-- the journal is one settled segment for each batch, of an order in which so many operators may have asked for its
-- commands
pub record IsLiveJournal (operators : ℕ) (world : WorldState) (batches : List (List Turn))
    (journal : List JournalLine) : Type 0 where
  pub orders : List (List Turn)
  pub are : AreOrdersOf operators batches orders
  pub settled : IsJournal world orders journal

-- turns of a batch that stopped; they have no mark
pub record StopsLiveBatch (operators : ℕ) (world : WorldState) (batch : List Turn) (stop : SettleStop)
    (journal : List JournalLine) : Type 0 where
  pub turns : List Turn
  pub lines : journal ≡ map Made turns
  pub stopped : StopsLive operators world batch stop turns

-- the journal is one settled segment for each of the first batches, and then turns of the next one that stopped
abbrev pub IsStoppedLive : (operators : ℕ) → SettleStop → WorldState → List (List Turn) → List JournalLine → Type 0
IsStoppedLive operators stop world [] journal = ⊥
IsStoppedLive operators stop world (batch ∷ batches) journal = StopsLiveBatch operators world batch stop journal
    ⊎ ((turns : List Turn) × (last : WorldState) × (rest : List JournalLine)
    × (journal ≡ lines_for turns ++ rest) × SettlesLive operators world batch turns last
    × IsStoppedLive operators stop last batches rest)

-- the journal of a script that was run live to its end, or to a stop
abbrev pub IsLiveJournalTo : (operators : ℕ) → Option SettleStop → WorldState → List (List Turn) → List JournalLine
    → Type 0
IsLiveJournalTo operators None world batches journal = IsLiveJournal operators world batches journal
IsLiveJournalTo operators (Some stop) world batches journal = IsStoppedLive operators stop world batches journal
