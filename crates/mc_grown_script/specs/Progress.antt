-- What comes of a stage of a script.
use Rattle.std.specs.Prelude.{◌≡◌, ℕ, List, [], ◌∷◌, ◌++◌, map, Some}
use Rattle.mc_box.specs.declared.event.Turn.{Turn}
use Rattle.mc_growth.specs.Growths.{IsStage, Stage, grown_by_all}
use Rattle.mc_stages.specs.Plans.{batch_of, growths_of}
use Rattle.mc_grown_script.specs.Printed.{network_text, stop_line, stop_word}
use Rattle.mc_grown_script.specs.Scripts.{ScriptState}
use Rattle.mc_grown_script.specs.ScriptRuns.{StopsSettle, StopsStage}
use Rattle.mc_stages.specs.declared.plan.StagePlan.{StagePlan}
use Rattle.mc_grown_script.specs.declared.script.StageOutcome.{StageOutcome}
use Rattle.mc_grown_script.specs.declared.script.StageOutcome.TheVariants.{Settled, Stopped}
use Rattle.mc_grown_script.specs.declared.stop.GrownStop.{GrownStop}
use Rattle.mc_grown_script.specs.declared.stop.GrownStop.TheVariants.{Settle}
use Rattle.mc_grown_script.specs.declared.stop.ScriptRun.{ScriptRun}
use Rattle.mc_model.specs.Settles.{IsSettled}
use Rattle.mc_replay.specs.Journals.{lines_for}
use Rattle.mc_script.specs.declared.command.JournalLine.{JournalLine}
use Rattle.mc_script.specs.declared.command.JournalLine.TheVariants.{Turn as Made}
use Rattle.mc_seq.specs.ShiftLimit.{KeepsShiftLimit}
use Rattle.mc_seq.specs.declared.fault.SettleFault.{SettleFault}
use Rattle.mc_seq.specs.declared.fault.SettleFault.TheVariants.{
  NoMemory,
  Restless as NeverRests,
  Ring as AtRing,
  VersionEnd as EndsVersion,
}
use Rattle.mc_seq.specs.declared.stopping.SettleStop.{SettleStop}
use Rattle.mc_seq.specs.declared.stopping.SettleStop.TheVariants.{Restless, Ring, VersionEnd}
use Rattle.mc_settle_text.specs.Words.{box_word}
use Rattle.mc_table.specs.Words.{line_of}
use Rattle.mc_text.specs.NameLists.{NameLists, slot_word}

-- ---- a settle

-- a batch was settled, and that was kept, and printed under the settle's number
pub record Settling (names : NameLists) (number : ℕ) (batch : List Turn) (old new : ScriptState) : Type 0 where
  pub turns : List Turn
  pub settled : IsSettled old.network.world batch turns new.network.world
  pub out : new.network.out ≡ old.network.out
  pub shift_limit : KeepsShiftLimit turns
  pub journal : new.journal ≡ old.journal ++ lines_for turns
  pub output : new.output ≡ old.output ++ network_text names number new.network

-- turns were made and kept; then the settle stopped, and the one line of the stop was printed
pub record StopsBatch (names : NameLists) (batch : List Turn) (old : ScriptState) (run : ScriptRun) : Type 0 where
  pub turns : List Turn
  pub stop : SettleStop
  pub stops : StopsSettle old.network.world batch stop turns
  pub journal : run.journal.items ≡ old.journal ++ map Made turns
  pub output : run.output.items ≡ stop_line names old.network.world (Settle stop)
  pub is : run.stop ≡ Some (Settle stop)

-- the batch was settled under this number, or it stopped
abbrev pub CameOfBatch : NameLists → (number : ℕ) → (batch : List Turn) → ScriptState → StageOutcome → Type 0
CameOfBatch names number batch old (Settled next) = Settling names number batch old next
CameOfBatch names number batch old (Stopped run) = StopsBatch names batch old run

-- ---- a stage

-- the stage for a plan, with these turns
abbrev pub stage_by : StagePlan → List Turn → Stage
stage_by plan turns = record { growths = growths_of plan; batch = batch_of plan; turns = turns }

-- a stage was run, and that was kept, and printed under its settle's number
pub record Staging (names : NameLists) (number : ℕ) (plan : StagePlan) (old new : ScriptState) : Type 0 where
  pub turns : List Turn
  pub stage : IsStage old.network (stage_by plan turns) new.network.world
  pub out : new.network.out ≡ (grown_by_all old.network (growths_of plan)).out
  pub shift_limit : KeepsShiftLimit turns
  pub journal : new.journal ≡ old.journal ++ lines_for turns
  pub output : new.output ≡ old.output ++ network_text names number new.network

-- turns were made and kept; then the stage stopped, and the one line of the stop was printed
pub record Stopping (names : NameLists) (plan : StagePlan) (old : ScriptState) (run : ScriptRun) : Type 0 where
  pub turns : List Turn
  pub stop : GrownStop
  pub stops : StopsStage old.network plan stop turns
  pub journal : run.journal.items ≡ old.journal ++ map Made turns
  pub output : run.output.items ≡ stop_line names (grown_by_all old.network (growths_of plan)).world stop
  pub is : run.stop ≡ Some stop

-- the stage was run under this number, or it stopped
abbrev pub CameOf : NameLists → (number : ℕ) → StagePlan → ScriptState → StageOutcome → Type 0
CameOf names number plan old (Settled next) = Staging names number plan old next
CameOf names number plan old (Stopped run) = Stopping names plan old run

-- ---- stops

-- the line of a stop at a slot's place, and at a box
abbrev pub slot_line : NameLists → GrownStop → ℕ × ℕ → List ℕ
slot_line names stop at = line_of (stop_word stop ∷ slot_word names at.0 at.1 ∷ [])

abbrev pub box_line : NameLists → GrownStop → ℕ → List ℕ
box_line names stop who = line_of (stop_word stop ∷ box_word names who ∷ [])

-- a script ended at this stop, with this line: turns were kept after its journal
pub record EndsAt (stop : GrownStop) (line : List ℕ) (turns : List Turn) (before : List JournalLine)
    (run : ScriptRun) : Type 0 where
  pub journal : run.journal.items ≡ before ++ map Made turns
  pub output : run.output.items ≡ line
  pub is : run.stop ≡ Some stop

-- it ended as its settle did
abbrev pub EndsByFault : NameLists → (journal : List JournalLine) → SettleFault → ScriptRun → Type 0
EndsByFault names journal (EndsVersion stopped) run =
    EndsAt (Settle (VersionEnd stopped.at))
    (slot_line names (Settle (VersionEnd stopped.at)) stopped.place) stopped.turns.items journal run
EndsByFault names journal (AtRing stopped) run =
    EndsAt (Settle (Ring stopped.at))
    (slot_line names (Settle (Ring stopped.at)) stopped.place) stopped.turns.items journal run
EndsByFault names journal (NeverRests stopped) run =
    EndsAt (Settle (Restless stopped.at))
    (box_line names (Settle (Restless stopped.at)) stopped.at) stopped.turns.items journal run
EndsByFault names journal (NoMemory e) run = ⊥
