-- The settings of boxes without programs are as plans alone make them, whatever programs other boxes have.
use Rattle.std.proofs.Common.{◌≡◌, ℕ, List, [], ◌∷◌, None, refl, ap, sym, ◌∙◌}
use Rattle.mc_slot.specs.declared.Goal.TheVariants.{Close as ToClose}
use Rattle.mc_slot.specs.declared.SlotGoal.TheVariants.{End}
use Rattle.std.proofs.Math.ListN.{get_or}
use Rattle.mc_box.specs.declared.event.Turn.{Turn}
use Rattle.mc_growth.specs.Growths.{Cut, GrownState, Growth, Join, MayGrow, MayGrowAll, grown_by, grown_by_all}
use Rattle.mc_growth.specs.Outs.{IsUnprogrammed}
use Rattle.mc_grown_laws.proofs.Shapes.{may_by, shape_back, shape_joined}
use Rattle.mc_laws.proofs.ShapesKept.{run_keeps_shape, shape_both}
use Rattle.mc_model.specs.Settles.{commands_of}
use Rattle.mc_model.specs.Shapes.{HasShape}
use Rattle.mc_model.specs.Worlds.{WorldState, box_at, goal_of, place}
use Rattle.mc_program_laws.proofs.Untold.{unprogrammed_follows}
use Rattle.mc_settings.specs.Settings.{Settings, commanded, set_by_all, settings_of}
use Rattle.mc_settings.proofs.CommandedWorlds.{settings_are, shape_stays}
use Rattle.mc_stages.specs.Plans.{batch_of, growths_of}
use Rattle.mc_stages.specs.declared.plan.StagePlan.{StagePlan}
use Rattle.mc_grown_rest.specs.Planned.{grown_for, commanded_for}
use Rattle.mc_grown_rest.proofs.JoinedSettings.{joined_settings, none_before}
use Rattle.mc_grown_rest.proofs.Reaching.{IsReady, Settles, network_after, sound_for}

-- a network of the shape that is planned, in which boxes without programs have the settings that are planned
pub record IsSetAs (aim now : GrownState) : Type 0 where
  pub shape : HasShape now.world aim.world
  pub settings : (who : ℕ) → (box_at now.world who).program ≡ None → settings_of (box_at now.world who) ≡ settings_of (box_at aim.world who)

pub set_one : (growth : Growth) (aim now : GrownState) → MayGrow now growth → IsSetAs aim now → IsSetAs (grown_by aim growth) (grown_by now growth)
set_one (Join medium from to) aim now may set =
    let may_as = may_by aim.world now.world from to (shape_back now.world aim.world set.shape) may in
    record {
      shape = shape_joined now.world aim.world medium from to set.shape may_as;
      settings = λ who none.
          joined_settings now.world aim.world medium from to who set.shape may may_as (set.settings who (none_before now.world medium from to who may none));
    }
set_one (Cut channel) aim now may set = record { shape = set.shape; settings = set.settings }

pub set_all : (growths : List Growth) (aim now : GrownState) → MayGrowAll now growths → IsSetAs aim now → IsSetAs (grown_by_all aim growths) (grown_by_all now growths)
set_all [] aim now may set = set
set_all (growth ∷ growths) aim now may set = set_all growths (grown_by aim growth) (grown_by now growth) may.1 (set_one growth aim now may.0 set)

-- after a settle they are as the plan's commands make them
pub set_after : (aim network : GrownState) (plan : StagePlan) (plans : List StagePlan) (turns : List Turn) (next : WorldState) → IsReady network (plan ∷ plans) → Settles network plan turns next
    → IsSetAs aim network → IsSetAs (commanded_for aim plan) (network_after network plan next)
set_after aim network plan plans turns next ready settles set =
    let grown = grown_for network plan in
    let sound = sound_for network plan plans ready in
    let here = set_all (growths_of plan) aim network settles.may set in
    let shape = run_keeps_shape grown.world next turns sound settles.settled.runs in
    let begun : WorldState = (grown_for aim plan).world in
    let batch : List Turn = batch_of plan in
    record {
      shape = shape_both next grown.world (commanded begun batch) shape
          (shape_both grown.world begun (commanded begun batch) here.shape (shape_back (commanded begun batch) begun (shape_stays begun batch)));
      settings = λ who none.
          let before = sym (shape.alike who).program ∙ none in
          unprogrammed_follows grown.world next turns who sound before settles.settled.runs
          ∙ (ap (λ (l : List Turn). set_by_all l (settings_of (box_at grown.world who))) (settles.settled.commands who)
          ∙ (ap (set_by_all (commands_of who batch)) (here.settings who before) ∙ sym (settings_are begun batch who)));
    }

-- so the goal of a slot of such a box is
pub goal_as : (aim now : GrownState) (s : ℕ) → IsSetAs aim now → IsUnprogrammed now.world s → goal_of aim.world s ≡ goal_of now.world s
goal_as aim now s set none =
    let at : ℕ × ℕ = place now.world s in
    let same : place aim.world s ≡ at = rw (set.shape.channels) refl in
    ap (λ (p : ℕ × ℕ). get_or (box_at aim.world p.0).goals p.1 (End ToClose)) same
    ∙ ap (λ (settings : Settings). get_or settings.goals at.1 (End ToClose)) (sym (set.settings at.0 none))
