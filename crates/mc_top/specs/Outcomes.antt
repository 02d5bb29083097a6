-- What comes of a batch of a script.
use Rattle.std.specs.Prelude.{◌≡◌, ℕ, List, ◌++◌, map, Some, IfSome}
use Rattle.mc_model.specs.Settles.{IsStopped}
use Rattle.mc_model.specs.Worlds.{WorldState}
use Rattle.mc_box.specs.declared.event.Turn.{Turn}
use Rattle.mc_seq.specs.ShiftLimit.{KeepsShiftLimit}
use Rattle.mc_text.specs.NameLists.{NameLists}
use Rattle.mc_script.specs.declared.command.JournalLine.TheVariants.{Turn as Made}
use Rattle.mc_top.specs.Drawn.{StopsBy}
use Rattle.mc_script_end.specs.Journals.{IsCause}
use Rattle.mc_top.specs.Printed.{report_text}
use Rattle.mc_settle_text.specs.Stops.{stop_line}
use Rattle.mc_top.specs.Scripts.{ScriptState, Settling}
use Rattle.mc_top.specs.declared.report.Report.{Report}
use Rattle.mc_top.specs.declared.run.Outcome.{Outcome}
use Rattle.mc_top.specs.declared.run.Outcome.TheVariants.{Settled, Stopped}
use Rattle.mc_script_end.specs.declared.run.Run.{Run}
use Rattle.mc_seq.specs.declared.stopping.SettleStop.{SettleStop}

-- turns were made and kept; then the batch stopped, and the one line of the stop was printed
pub record Stopping (names : NameLists) (batch : List Turn) (old : ScriptState) (run : Run) : Type 0 where
  pub turns : List Turn
  pub last : WorldState
  pub stop : SettleStop
  pub stopped : IsStopped old.world batch turns last
  pub shift_limit : KeepsShiftLimit turns
  pub cause : IsCause stop batch turns last
  pub scheduled : IfSome old.draws (λ state. (end : ℕ) × StopsBy stop old.world batch state turns end)
  pub journal : run.journal.items ≡ old.journal ++ map Made turns
  pub output : run.output.items ≡ stop_line names old.world stop
  pub is : run.stop ≡ Some stop

-- the batch was settled under this number, or it stopped
abbrev pub CameOf : Report → NameLists → (number : ℕ) → (batch : List Turn) → ScriptState → Outcome → Type 0
CameOf report names number batch old (Settled next) = Settling (report_text report names) number batch old next
CameOf report names number batch old (Stopped run) = Stopping names batch old run
