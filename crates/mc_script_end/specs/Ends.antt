-- How a script ends that stops at a settle.
use Rattle.std.specs.Prelude.{◌≡◌, ℕ, List, [], ◌∷◌, ◌++◌, map, Some}
use Rattle.mc_box.specs.declared.event.Turn.{Turn}
use Rattle.mc_script.specs.declared.command.JournalLine.{JournalLine}
use Rattle.mc_script.specs.declared.command.JournalLine.TheVariants.{Turn as Made}
use Rattle.mc_seq.specs.declared.fault.SettleFault.{SettleFault}
use Rattle.mc_seq.specs.declared.fault.SettleFault.TheVariants.{
  NoMemory,
  Restless as NeverRests,
  Ring as AtRing,
  VersionEnd as EndsVersion,
}
use Rattle.mc_seq.specs.declared.stopping.SettleStop.{SettleStop}
use Rattle.mc_seq.specs.declared.stopping.SettleStop.TheVariants.{Restless, Ring, VersionEnd}
use Rattle.mc_settle_text.specs.Stops.{stop_word}
use Rattle.mc_settle_text.specs.Words.{box_word}
use Rattle.mc_table.specs.Words.{line_of}
use Rattle.mc_text.specs.NameLists.{NameLists, slot_word}
use Rattle.mc_script_end.specs.declared.run.Run.{Run}

-- a script ended at this stop: turns were kept after its journal, and one line is what it prints
pub record EndsAt (stop : SettleStop) (place : List ℕ) (turns : List Turn) (before : List JournalLine)
    (run : Run) : Type 0 where
  pub journal : run.journal.items ≡ before ++ map Made turns
  pub output : run.output.items ≡ line_of (stop_word stop ∷ place ∷ [])
  pub is : run.stop ≡ Some stop

-- it ended as its settle did
abbrev pub EndsBy : NameLists → (journal : List JournalLine) → SettleFault → Run → Type 0
EndsBy names journal (EndsVersion stopped) run =
    EndsAt (VersionEnd stopped.at) (slot_word names stopped.place.0 stopped.place.1) stopped.turns.items journal run
EndsBy names journal (AtRing stopped) run =
    EndsAt (Ring stopped.at) (slot_word names stopped.place.0 stopped.place.1) stopped.turns.items journal run
EndsBy names journal (NeverRests stopped) run =
    EndsAt (Restless stopped.at) (box_word names stopped.at) stopped.turns.items journal run
EndsBy names journal (NoMemory e) run = ⊥
