-- A step changes no shape, and so a run doesn't.
use Rattle.std.proofs.Common.{◌≡◌, Some, List, [], ◌∷◌, refl, ◌∙◌, subst}
use Rattle.mc_box.specs.Acting.{IsAlike}
use Rattle.mc_box.specs.Boxes.{BoxState}
use Rattle.mc_model.specs.Shapes.{HasShape, RunKeepsShape, StepKeepsShape}
use Rattle.mc_model.specs.Sound.{IsSound}
use Rattle.mc_model.specs.Steps.{run, step}
use Rattle.mc_model.specs.Worlds.{WorldState, box_at}
use Rattle.mc_box.specs.declared.event.Turn.{Turn}
use Rattle.mc_laws.proofs.StepActs.{step_acts}
use Rattle.mc_box.proofs.Options.{then_some}
use Rattle.mc_laws.proofs.StepKeeps.{step_keeps_sound}
use Rattle.mc_laws.proofs.SteppedKeeps.{shape_stays}

alike_same : (new old : BoxState) → new ≡ old → IsAlike new old
alike_same new old same = rw same (record { kind = refl; number = refl; receives = refl; sends = refl; first_version = refl; slots = refl; program = refl })

pub same_shape : (world : WorldState) → HasShape world world
same_shape world = record { channels = refl; boxes = refl; alike = λ who. alike_same (box_at world who) (box_at world who) refl }

pub step_keeps_shape : StepKeepsShape
step_keeps_shape world next turn sound goes = shape_stays world next turn.who (step_acts world next turn sound goes)

alike_both : (last next first : BoxState) → IsAlike last next → IsAlike next first → IsAlike last first
alike_both last next first two one = record {
  kind = two.kind ∙ one.kind;
  number = two.number ∙ one.number;
  receives = two.receives ∙ one.receives;
  sends = two.sends ∙ one.sends;
  first_version = two.first_version ∙ one.first_version;
  slots = two.slots ∙ one.slots;
  program = two.program ∙ one.program;
}

-- one shape after another
pub shape_both : (last next first : WorldState) → HasShape last next → HasShape next first → HasShape last first
shape_both last next first two one = record {
  channels = two.channels ∙ one.channels;
  boxes = two.boxes ∙ one.boxes;
  alike = λ who. alike_both (box_at last who) (box_at next who) (box_at first who) (two.alike who) (one.alike who);
}

run_by : (turns : List Turn) (world next : WorldState) → IsSound world → run world turns ≡ Some next → HasShape next world
run_by [] world next sound goes = let same : world ≡ next = cc in subst (λ (w : WorldState). HasShape w world) same (same_shape world)
run_by (turn ∷ turns) world next sound goes =
    let one = then_some (λ (w : WorldState). run w turns) (step world turn) next goes in
    shape_both next one.0 world (run_by turns one.0 next (step_keeps_sound world one.0 turn sound one.1) one.2) (step_keeps_shape world one.0 turn sound one.1)

pub run_keeps_shape : RunKeepsShape
run_keeps_shape world next turns sound goes = run_by turns world next sound goes
