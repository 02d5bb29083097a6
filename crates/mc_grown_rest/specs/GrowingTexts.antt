-- Texts of networks that grow, of which what they say shows that their scripts come to their end.
use Rattle.std.specs.Prelude.{List, ℕ}
use Rattle.mc_growth.specs.Growths.{grown_from}
use Rattle.mc_lines.specs.SoFar.{Declared}
use Rattle.mc_lines.specs.declared.tail.Tail.TheVariants.{Grow}
use Rattle.mc_model.specs.Sound.{IsSound}
use Rattle.mc_model.specs.Worlds.{WorldState}
use Rattle.mc_net.specs.Nets.{IsFirstWorld, batches_of}
use Rattle.mc_net.specs.Texts.{Says}
use Rattle.mc_net.specs.declared.net.Net.{Net}
use Rattle.mc_stage_plans.specs.PlanLaws.{ArePlanned}
use Rattle.mc_stage_plans.specs.Planned.{ArePlansOf}
use Rattle.mc_stages.specs.declared.plan.StagePlan.{StagePlan}
use Rattle.mc_tail.specs.SoFar.{TailState}
use Rattle.mc_tail.specs.Tails.{SaysTail}
use Rattle.mc_tail.specs.declared.item.Item.{Item}
use Rattle.mc_tail.specs.declared.tail.TailText.{TailText}
use Rattle.mc_grown_script.specs.ScriptRuns.{StoppedWithin}
use Rattle.mc_grown_script.specs.declared.stop.GrownStop.{GrownStop}
use Rattle.mc_grown_script.specs.declared.stop.ScriptRun.{ScriptRun}
use Rattle.mc_grown_rest.specs.Rests.{AreClosed, ComesToEnd}

-- in the first world of what was declared the plans, of its batches and of what stands after the line `grow`, show that
-- the script comes to its end
abbrev pub ShowsItsEnd : Declared → List Item → Type 0
ShowsItsEnd d items =
    (world : WorldState) (plans : List StagePlan) → IsFirstWorld d world
    → ArePlansOf (batches_of d.commands) items plans → ComesToEnd (grown_from world) plans

-- a text declares a network and says what is to happen after the line `grow`, and shows that its script comes to its
-- end
abbrev pub CanGrow : List ℕ → Type 0
CanGrow text = (d : Declared) × (t : TailState) × Says Grow text d × SaysTail text t × ShowsItsEnd d t.items

-- ---- laws

-- the first world of a text is closed
abbrev pub FirstWorldsAreClosed : Type 0
FirstWorldsAreClosed = (d : Declared) (world : WorldState) → IsFirstWorld d world → AreClosed world

-- and the script of a text that can grow doesn't stop
abbrev pub TextsNeverStop : Type 0
TextsNeverStop =
    (text : List ℕ) (net : Net) (tail : TailText) (plans : List StagePlan) (stop : GrownStop) (run : ScriptRun)
    → CanGrow text → ArePlanned text net tail plans → IsSound net.world
    → StoppedWithin tail.names (grown_from net.world) plans stop run → ⊥
