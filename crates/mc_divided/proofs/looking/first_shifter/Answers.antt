use Rattle.std.proofs.Common.{◌≡◌, ◌∙◌, length, ap, sym, rules, arith, below_more}
use Rattle.std.specs.Vec.{vec_len}
use Rattle.mc_box.specs.BoxEvents.{is_enabled}
use Rattle.mc_box.specs.Boxes.{BoxState}
use Rattle.mc_box.specs.declared.event.Event.TheVariants.{Shift}
use Rattle.mc_divided.specs.Networks.{world_in}
use Rattle.mc_divided.proofs.NetworkBoxes.{box_count, none_shifts}
use Rattle.mc_divided.proofs.looking.first_shifter.Goals as goal

pub loop-who-preserved : goal.loop-who-preserved
loop-who-preserved c =
    below_more _ _ c.loop-who.invariant
    (ap (λ (one : BoxState). is_enabled one Shift) (sym c.box_of.ensures) ∙ (sym c.enabled.ensures ∙ c.if-enabled.false))

pub returns : goal.returns
returns c =
    let long : vec_len c.args.network.now.assigned ≡ length c.args.network.now.assigned.items = search rules in
    none_shifts (world_in c.args.network.now)
    (λ who below. c.loop-who.invariant who
    (omega (arith, below, box_count c.args.network.now, c.len-who-end.ensures, c.loop-who-test.false, long)))

pub returns-then-enabled : goal.returns-then-enabled
returns-then-enabled c =
    let long : vec_len c.args.network.now.assigned ≡ length c.args.network.now.assigned.items = search rules in
    record {
      inside = omega (arith, c.loop-who-test.true, box_count c.args.network.now, c.len-who-end.ensures, long);
      can = ap (λ (one : BoxState). is_enabled one Shift) (sym c.box_of.ensures)
          ∙ (sym c.enabled.ensures ∙ c.if-enabled.true);
      least = c.loop-who.invariant;
    }
