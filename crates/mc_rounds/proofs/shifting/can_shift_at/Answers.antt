use Rattle.std.proofs.Common.{◌≡◌, ◌∙◌, length, ap, sym, rules, arith}
use Rattle.std.specs.Vec.{vec_len}
use Rattle.mc_box.specs.BoxEvents.{is_enabled}
use Rattle.mc_box.specs.Boxes.{BoxState}
use Rattle.mc_box.specs.declared.event.Event.TheVariants.{Shift}
use Rattle.mc_divided.proofs.NetworkBoxes.{box_count}
use Rattle.mc_divided.specs.Networks.{world_in}
use Rattle.mc_rounds.proofs.Since.{shifts_past}
use Rattle.mc_rounds.proofs.shifting.can_shift_at.Goals as goal

pub returns-then-who-len : goal.returns-then-who-len
returns-then-who-len c none =
    let long : vec_len c.args.network.now.assigned ≡ length c.args.network.now.assigned.items = search rules in
    shifts_past (world_in c.args.network.now) c.args.who (omega (arith, box_count c.args.network.now, c.if-who-len.true, long))

pub returns : goal.returns
returns c none = ap (λ (one : BoxState). is_enabled one Shift) (sym c.box_of.ensures) ∙ (sym c.enabled.ensures ∙ none)
