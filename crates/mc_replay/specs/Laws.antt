-- Laws of journals: each is good or has a fault, never both, nor two faults; and what holds at the marks of a good one.
use Rattle.std.specs.Prelude.{◌≡◌, ◌+◌, ℕ, Bool, false, List, take}
use Rattle.mc_box.specs.declared.event.Turn.{Turn}
use Rattle.mc_model.specs.Sound.{IsSound}
use Rattle.mc_model.specs.Worlds.{WorldState}
use Rattle.mc_script.specs.declared.command.JournalLine.{JournalLine}
use Rattle.mc_replay.specs.Faults.{IsJournalFault, StandsFor}
use Rattle.mc_replay.specs.Journals.{HoldsAtSettles, IsJournal}
use Rattle.mc_replay.specs.Points.{turns_in}

-- no two faults
abbrev pub OneJournalFault : Type 0
OneJournalFault =
    (world : WorldState) (batches : List (List Turn)) (lines : List JournalLine) (bad : Bool)
    (number turn other_number other_turn : ℕ)
    → IsJournalFault world batches lines bad number turn
    → IsJournalFault world batches lines bad other_number other_turn → (number ≡ other_number) × (turn ≡ other_turn)

-- of each journal one number of lines may stand and no more
abbrev pub OnePlace : Type 0
OnePlace =
    (world : WorldState) (batches : List (List Turn)) (lines : List JournalLine) (count other : ℕ)
    → StandsFor world batches lines count → StandsFor world batches lines other → count ≡ other

-- and a fault's turn is one more than the turns among these
abbrev pub FaultsStandThere : Type 0
FaultsStandThere =
    (world : WorldState) (batches : List (List Turn)) (lines : List JournalLine) (bad : Bool) (number turn count : ℕ)
    → IsJournalFault world batches lines bad number turn → StandsFor world batches lines count
    → turn ≡ turns_in (take count lines) + 1

-- a journal of the batches has none
abbrev pub GoodOrFaulty : Type 0
GoodOrFaulty = (world : WorldState) (batches : List (List Turn)) (lines : List JournalLine) (number turn : ℕ)
    → IsJournal world batches lines → IsJournalFault world batches lines false number turn → ⊥

-- at each settle of a journal from a sound world the paths are as the table says
abbrev pub JournalsHold : Type 0
JournalsHold =
    (world : WorldState) (batches : List (List Turn)) (lines : List JournalLine) → IsSound world
    → IsJournal world batches lines → HoldsAtSettles world lines
