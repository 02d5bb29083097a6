-- Runs of scripts of networks that grow: stages for the plans of a script, their journal, and why a script stops.
use Rattle.std.specs.Prelude.{◌≡◌, List, [], ◌∷◌, ◌++◌, map, None, Some}
use Rattle.std.specs.List.{All, flat_map}
use Rattle.std.specs.declared.option.Option.{Option}
use Rattle.mc_box.specs.declared.event.Turn.{Turn}
use Rattle.mc_growth.specs.Growths.{GrownState, IsGrownRun, MayGrowAll, Stage, grown_by_all}
use Rattle.mc_stages.specs.Plans.{batch_of, growths_of}
use Rattle.mc_grown_script.specs.Printed.{networks_text, stop_line}
use Rattle.mc_stages.specs.declared.plan.StagePlan.{StagePlan}
use Rattle.mc_grown_script.specs.declared.stop.GrownStop.{GrownStop}
use Rattle.mc_grown_script.specs.declared.stop.GrownStop.TheVariants.{Cut, Settle}
use Rattle.mc_grown_script.specs.declared.stop.ScriptRun.{ScriptRun}
use Rattle.mc_model.specs.Worlds.{WorldState}
use Rattle.mc_replay.specs.Journals.{lines_for}
use Rattle.mc_rounds.specs.Stops.{StopsAtLast, StopsOnRing, StopsUnrested}
use Rattle.mc_script.specs.declared.command.JournalLine.{JournalLine}
use Rattle.mc_script.specs.declared.command.JournalLine.TheVariants.{Turn as Made}
use Rattle.mc_seq.specs.ShiftLimit.{KeepsShiftLimit}
use Rattle.mc_seq.specs.declared.stopping.SettleStop.{SettleStop}
use Rattle.mc_seq.specs.declared.stopping.SettleStop.TheVariants.{Restless, Ring, VersionEnd}
use Rattle.mc_stages.specs.StageRuns.{AreOfPlans, IsCutShort, networks_after}
use Rattle.mc_text.specs.NameLists.{NameLists}

-- ---- stages that were run

-- their journal: the turns of each, with its mark
abbrev pub journal_of : List Stage → List JournalLine
journal_of stages = flat_map (λ stage. lines_for stage.turns) stages

-- stages that a script has run: they lead from its first network to a last one, and in none a box makes more than
-- SHIFT_LIMIT Shifts
pub record HasRun (plans : List StagePlan) (first : GrownState) (stages : List Stage) (last : GrownState) : Type 0 where
  pub runs : IsGrownRun first stages last
  pub of_plans : AreOfPlans plans stages
  pub shift_limit : All (λ stage. KeepsShiftLimit stage.turns) stages

-- ---- stops

-- a settle stops so, after these turns
abbrev pub StopsSettle : WorldState → (batch : List Turn) → SettleStop → (turns : List Turn) → Type 0
StopsSettle world batch (VersionEnd at) turns = StopsAtLast world batch turns at
StopsSettle world batch (Ring at) turns = StopsOnRing world batch turns at
StopsSettle world batch (Restless at) turns = StopsUnrested world batch turns at

-- a stage stops so: at a cut, before any turn of it, or at its settle
abbrev pub StopsStage : GrownState → StagePlan → GrownStop → (turns : List Turn) → Type 0
StopsStage network plan (Cut at) turns = IsCutShort network (growths_of plan) at × (turns ≡ [])
StopsStage network plan (Settle stop) turns =
    MayGrowAll network (growths_of plan)
    × StopsSettle (grown_by_all network (growths_of plan)).world (batch_of plan) stop turns

-- ---- a script's run

-- it came to its end: each settle is printed, with the paths of the network after it
pub record CameToEnd (names : NameLists) (first : GrownState) (plans : List StagePlan) (run : ScriptRun) : Type 0 where
  pub stages : List Stage
  pub last : GrownState
  pub ran : HasRun plans first stages last
  pub journal : run.journal.items ≡ journal_of stages
  pub output : run.output.items ≡ networks_text names 1 (networks_after first stages)

-- It stopped within a stage: the stages before it are in the journal, and the turns of this one, without a mark. All
-- that is printed is the line of the stop
pub record StoppedWithin (names : NameLists) (first : GrownState) (plans : List StagePlan) (stop : GrownStop)
    (run : ScriptRun) : Type 0 where
  pub before : List StagePlan
  pub plan : StagePlan
  pub later : List StagePlan
  pub plans_are : plans ≡ before ++ plan ∷ later
  pub stages : List Stage
  pub last : GrownState
  pub ran : HasRun before first stages last
  pub turns : List Turn
  pub stops : StopsStage last plan stop turns
  pub journal : run.journal.items ≡ journal_of stages ++ map Made turns
  pub output : run.output.items ≡ stop_line names (grown_by_all last (growths_of plan)).world stop

-- it did one or the other, as its stop says
abbrev pub EndsBy : NameLists → GrownState → List StagePlan → Option GrownStop → ScriptRun → Type 0
EndsBy names first plans None run = CameToEnd names first plans run
EndsBy names first plans (Some stop) run = StoppedWithin names first plans stop run

abbrev pub EndsAs : NameLists → GrownState → List StagePlan → ScriptRun → Type 0
EndsAs names first plans run = EndsBy names first plans run.stop run
