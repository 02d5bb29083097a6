-- Journals of scripts that stop: the turns up to the stop come last, without a mark.
use Rattle.std.specs.Prelude.{◌≡◌, ◌⊎◌, List, [], ◌∷◌, ◌++◌, map, Option, Some, None}
use Rattle.mc_laws.specs.Versions.{PassesLast}
use Rattle.mc_model.specs.Rings.{IsFirstOnRing}
use Rattle.mc_model.specs.Settles.{IsSettled, IsStopped, MeetsLast, hears_in}
use Rattle.mc_model.specs.Unprogrammed.{HasNoPrograms}
use Rattle.mc_model.specs.Worlds.{WorldState}
use Rattle.mc_seq.specs.Restless.{IsRestless}
use Rattle.mc_replay.specs.Journals.{IsJournal, lines_for}
use Rattle.mc_box.specs.declared.event.Turn.{Turn}
use Rattle.mc_settings.specs.Batches.{LeavesNoRing, UseUp}
use Rattle.mc_script.specs.declared.command.JournalLine.{JournalLine}
use Rattle.mc_script.specs.declared.command.JournalLine.TheVariants.{Turn as Made}
use Rattle.mc_laws.specs.Chains.{ClosesNoChain}
use Rattle.mc_grown_rest.specs.Rests.{RestsByWords}
use Rattle.mc_seq.specs.declared.stopping.SettleStop.{SettleStop}
use Rattle.mc_seq.specs.declared.stopping.SettleStop.TheVariants.{Restless, Ring, VersionEnd}

-- why a script stops, after turns of a batch that leave a world: at the last version; or where the batch is used up,
-- at the least slot on a ring, or at the first box whose program can still go on, and has made all its Shifts
abbrev pub IsCause : SettleStop → (batch turns : List Turn) → WorldState → Type 0
IsCause (VersionEnd at) batch turns last = MeetsLast batch turns last at
IsCause (Ring at) batch turns last = UseUp batch turns × IsFirstOnRing last at
IsCause (Restless at) batch turns last = UseUp batch turns × IsRestless turns last at

-- turns that stopped within a batch, with their cause; they have no mark
pub record StopsBatch (world : WorldState) (batch : List Turn) (stop : SettleStop)
    (journal : List JournalLine) : Type 0 where
  pub turns : List Turn
  pub last : WorldState
  pub lines : journal ≡ map Made turns
  pub stopped : IsStopped world batch turns last
  pub cause : IsCause stop batch turns last

-- the journal is one settled segment for each of the first batches, and then turns that stopped within the next one
abbrev pub IsStoppedJournal : SettleStop → WorldState → List (List Turn) → List JournalLine → Type 0
IsStoppedJournal stop world [] journal = ⊥
IsStoppedJournal stop world (batch ∷ batches) journal = StopsBatch world batch stop journal
    ⊎ ((turns : List Turn) × (last : WorldState) × (rest : List JournalLine)
    × (journal ≡ lines_for turns ++ rest) × IsSettled world batch turns last × IsStoppedJournal stop last batches rest)

-- the journal of a script that was run to its end, or to a stop
abbrev pub IsJournalTo : Option SettleStop → WorldState → List (List Turn) → List JournalLine → Type 0
IsJournalTo None world batches journal = IsJournal world batches journal
IsJournalTo (Some stop) world batches journal = IsStoppedJournal stop world batches journal

-- what a stop shows of the batches: at the last version, that the version of some slot in the first world and its Hears
-- are more than that together; at a ring, that the goals of some batch make one, where no box has a program, and that a
-- chain can be closed of the tunnels and of the links that are named, whatever the boxes have; at a restless box, that
-- some box has a program, and that not all go by words, of which too few are told
abbrev pub ShowsCause : Option SettleStop → WorldState → List (List Turn) → Type 0
ShowsCause None world batches = Unit {0}
ShowsCause (Some (VersionEnd at)) world batches = PassesLast world (λ who local. hears_in who local batches)
ShowsCause (Some (Ring at)) world batches =
    (HasNoPrograms world → LeavesNoRing world batches → ⊥) × (ClosesNoChain world batches → ⊥)
ShowsCause (Some (Restless at)) world batches = (HasNoPrograms world → ⊥) × (RestsByWords world batches → ⊥)
