-- What holds before each stage of a script that was run.
use Rattle.std.proofs.Common.{◌≡◌, ◌++◌, Some, List, [], ◌∷◌, refl, subst}
use Rattle.mc_box.specs.declared.event.Turn.{Turn}
use Rattle.mc_growth.specs.Growths.{GrownState, Growth, IsGrownRun, IsStage, MayGrowAll, Stage, grown_by_all, with_world}
use Rattle.mc_grown_script.proofs.Lawful.{lawful_same}
use Rattle.mc_laws.proofs.ShapesKept.{run_keeps_shape}
use Rattle.mc_laws.proofs.StepKeeps.{run_keeps_sound}
use Rattle.mc_model.specs.Settles.{IsSettled}
use Rattle.mc_model.specs.Sound.{IsSound}
use Rattle.mc_model.specs.Steps.{run}
use Rattle.mc_model.specs.Worlds.{WorldState}
use Rattle.mc_stages.specs.Plans.{AreLawful, batch_of, growths_of}
use Rattle.mc_stages.specs.StageRuns.{AreOfPlans}
use Rattle.mc_stages.specs.declared.plan.StagePlan.{StagePlan}
use Rattle.mc_stages.proofs.Grows.{sound_all}
use Rattle.mc_grown_rest.specs.Planned.{grown_for}

-- a network from which these plans may be asked for
pub record IsReady (network : GrownState) (plans : List StagePlan) : Type 0 where
  pub sound : IsSound network.world
  pub lawful : AreLawful network plans

-- a plan is settled by these turns
pub record Settles (network : GrownState) (plan : StagePlan) (turns : List Turn) (next : WorldState) : Type 0 where
  pub may : MayGrowAll network (growths_of plan)
  pub settled : IsSettled (grown_for network plan).world (batch_of plan) turns next

-- the network after turns that were made for a plan
abbrev pub network_after : GrownState → StagePlan → WorldState → GrownState
network_after network plan next = with_world (grown_for network plan) next

pub sound_for : (network : GrownState) (plan : StagePlan) (plans : List StagePlan) → IsReady network (plan ∷ plans) → IsSound (grown_for network plan).world
sound_for network plan plans ready = sound_all (growths_of plan) network ready.sound ready.lawful.0

pub ready_after : (network : GrownState) (plan : StagePlan) (plans : List StagePlan) (turns : List Turn) (next : WorldState) → IsReady network (plan ∷ plans)
    → run (grown_for network plan).world turns ≡ Some next → IsReady (network_after network plan next) plans
ready_after network plan plans turns next ready goes =
    let strong = sound_for network plan plans ready in
    let sound = run_keeps_sound (grown_for network plan).world next turns strong goes in
    record {
      sound = sound;
      lawful = lawful_same plans (network_after network plan next) (grown_for network plan) (record {
        out = refl;
        shape = run_keeps_shape (grown_for network plan).world next turns strong goes;
        new_sound = sound;
        old_sound = strong;
      }) ready.lawful.2;
    }

-- what each settle of a script keeps, of the network and the plans that are left
abbrev pub Keeps : (GrownState → List StagePlan → Type 0) → Type 0
Keeps P =
    (network : GrownState) (plan : StagePlan) (plans : List StagePlan) (turns : List Turn) (next : WorldState) → IsReady network (plan ∷ plans)
    → Settles network plan turns next → P network (plan ∷ plans) → P (network_after network plan next) plans

-- the first of the stages is for the first plan
first_of : (plan : StagePlan) (plans : List StagePlan) (stage : Stage) (stages : List Stage) → AreOfPlans (plan ∷ plans) (stage ∷ stages)
    → (stage.growths ≡ growths_of plan) × (stage.batch ≡ batch_of plan) × AreOfPlans plans stages
first_of plan plans stage stages of =
    let growths = of.growths in
    let batches = of.batches in
    (cc, cc, record { growths = cc; batches = cc })

settles_for : (network : GrownState) (plan : StagePlan) (stage : Stage) (next : WorldState) → stage.growths ≡ growths_of plan → stage.batch ≡ batch_of plan → IsStage network stage next
    → Settles network plan stage.turns next
settles_for network plan stage next growths batch here = record {
  may = subst (λ (g : List Growth). MayGrowAll network g) growths here.grows;
  settled = subst (λ (g : List Growth). IsSettled (grown_by_all network g).world (batch_of plan) stage.turns next) growths
      (subst (λ (b : List Turn). IsSettled (grown_by_all network stage.growths).world b stage.turns next) batch here.settles);
}

-- it holds of the network that the stages lead to
pub reaches : (P : GrownState → List StagePlan → Type 0) → Keeps P → (before rest : List StagePlan) (stages : List Stage) (network last : GrownState) → IsReady network (before ++ rest)
    → P network (before ++ rest) → IsGrownRun network stages last → AreOfPlans before stages → IsReady last rest × P last rest
reaches P keeps [] rest [] network last ready holds goes of =
    subst (λ (n : GrownState). IsReady n rest × P n rest) goes (ready, holds)
reaches P keeps [] rest (stage ∷ stages) network last ready holds goes of = absurd (let growths = of.growths in cc)
reaches P keeps (plan ∷ before) rest [] network last ready holds goes of = absurd (let growths = of.growths in cc)
reaches P keeps (plan ∷ before) rest (stage ∷ stages) network last ready holds goes of =
    let first = first_of plan before stage stages of in
    let next : WorldState = goes.0 in
    let settles = settles_for network plan stage next first.0 first.1 goes.1 in
    reaches P keeps before rest stages (network_after network plan next) last (ready_after network plan (before ++ rest) stage.turns next ready settles.settled.runs)
    (keeps network plan (before ++ rest) stage.turns next ready settles holds)
    (subst (λ (g : List Growth). IsGrownRun (with_world (grown_by_all network g) next) stages last) first.0 goes.2) first.2
