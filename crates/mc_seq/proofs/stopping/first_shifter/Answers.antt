use Rattle.std.proofs.Common.{◌∙◌, position, ap, sym, subst}
use Rattle.mc_box.specs.BoxEvents.{is_enabled}
use Rattle.mc_box.specs.Boxes.{BoxState}
use Rattle.mc_box.specs.declared.event.Event.TheVariants.{Shift}
use Rattle.mc_seq.specs.Restless.{IsFirstShifterOr}
use Rattle.mc_seq.proofs.Endings.{shifter_is, shifter_none}
use Rattle.mc_seq.proofs.stopping.first_shifter.Goals as goal

pub returns-in_err-place : goal.returns-in_err-place
returns-in_err-place c =
    subst (IsFirstShifterOr c.args.world.now) (sym c.from_residual.ensures)
    (shifter_none c.args.world.now.boxes (c.in_err-place.ensures ∙ ap (position (λ (one : BoxState). is_enabled one Shift)) c.boxes.ensures))

pub returns : goal.returns
returns c =
    shifter_is c.args.world.now c.in_ok-place.place
    (sym (c.in_ok-place.ensures ∙ ap (position (λ (one : BoxState). is_enabled one Shift)) c.boxes.ensures))
