-- Laws of scripts of networks that grow: which of them come to their end.
use Rattle.std.specs.Prelude.{◌≡◌, List, None}
use Rattle.mc_growth.specs.Growths.{GrownState}
use Rattle.mc_model.specs.Sound.{AreNew, IsSound}
use Rattle.mc_model.specs.Worlds.{WorldState}
use Rattle.mc_stages.specs.Plans.{AreLawful}
use Rattle.mc_stages.specs.declared.plan.StagePlan.{StagePlan}
use Rattle.mc_text.specs.NameLists.{NameLists}
use Rattle.mc_grown_script.specs.ScriptRuns.{EndsAs, StoppedWithin}
use Rattle.mc_grown_script.specs.declared.stop.GrownStop.{GrownStop}
use Rattle.mc_grown_script.specs.declared.stop.ScriptRun.{ScriptRun}
use Rattle.mc_grown_rest.specs.Rests.{AreClosed, ComesToEnd, StopShows}

-- a sound network of new boxes is closed
abbrev pub NewAreClosed : Type 0
NewAreClosed = (world : WorldState) → IsSound world → AreNew world.boxes → AreClosed world

-- a script that stops shows this of its plans, from a sound network that is closed, of which they may be asked
abbrev pub StopsShow : Type 0
StopsShow =
    (names : NameLists) (first : GrownState) (plans : List StagePlan) (stop : GrownStop) (run : ScriptRun)
    → IsSound first.world → AreClosed first.world → AreLawful first plans
    → StoppedWithin names first plans stop run → StopShows first plans stop

-- so one of which the plans show that it comes to its end does: no settle of it stops, and no cut is refused
abbrev pub ScriptsComeToEnd : Type 0
ScriptsComeToEnd =
    (names : NameLists) (first : GrownState) (plans : List StagePlan) (run : ScriptRun) → IsSound first.world
    → AreClosed first.world → AreLawful first plans → ComesToEnd first plans → EndsAs names first plans run
    → run.stop ≡ None
