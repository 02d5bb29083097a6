-- Stages that were run: the networks after them, the plans of which they are, and cuts that are refused.
use Rattle.std.specs.Prelude.{◌≡◌, ◌⊎◌, ℕ, List, [], ◌∷◌, map, Some}
use Rattle.mc_growth.specs.Growths.{
  Cut as ACut,
  GrownState,
  Growth,
  Join as AJoin,
  MayGrow,
  Stage,
  grown_by,
  stage_network,
  with_world,
}
use Rattle.mc_growth.specs.Outs.{MayCut, least_used}
use Rattle.mc_model.specs.Steps.{after}
use Rattle.mc_stages.specs.Plans.{batch_of, growths_of}
use Rattle.mc_stages.specs.declared.plan.StagePlan.{StagePlan}

-- ---- stages that were run

-- the network after a stage whose turns are a run
abbrev pub stage_end : GrownState → Stage → GrownState
stage_end network stage =
    with_world (stage_network network stage) (after (stage_network network stage).world stage.turns)

-- the networks after these stages, in order
abbrev pub networks_after : GrownState → List Stage → List GrownState
networks_after network [] = []
networks_after network (stage ∷ stages) = stage_end network stage ∷ networks_after (stage_end network stage) stages

-- the stages are one for each plan, in order, with its joins and cuts and its batch
pub record AreOfPlans (plans : List StagePlan) (stages : List Stage) : Type 0 where
  pub growths : map (λ stage. stage.growths) stages ≡ map growths_of plans
  pub batches : map (λ stage. stage.batch) stages ≡ map batch_of plans

-- ---- stops

-- a cut is refused: this is the least slot of its channel that is in use
abbrev pub RefusesGrowth : GrownState → Growth → ℕ → Type 0
RefusesGrowth network (AJoin medium from to) at = ⊥
RefusesGrowth network (ACut channel) at =
    MayCut network.world network.out channel × (least_used network.world channel ≡ Some at)

-- the first of these joins and cuts that may not be made is a cut that is refused at this slot
abbrev pub IsCutShort : GrownState → List Growth → ℕ → Type 0
IsCutShort network [] at = ⊥
IsCutShort network (growth ∷ growths) at =
    RefusesGrowth network growth at ⊎ (MayGrow network growth × IsCutShort (grown_by network growth) growths at)
