use Rattle.std.proofs.Common.{◌∙◌, ap, sym, arith}
use Rattle.mc_model.specs.Paths.{partner_of}
use Rattle.mc_laws.proofs.ActedWorlds.{far_inside}
use Rattle.mc_path.proofs.Walking.{half_of}
use Rattle.mc_ladder_choice.proofs.Walked.{ends, goes_on, walked}
use Rattle.mc_ladder_choice.proofs.boxes.boxes_from.Goals as goal

pub partner-requires : goal.partner-requires
partner-requires c = rw c.far.ensures (far_inside c.args.world.now c.loop-done.at c.loop-done.invariant.inside)

pub returns-in-None : goal.returns-in-None
returns-in-None c =
    let all = half_of c.args.world.now c.slot_count-done-end.result c.slot_count-done-end.ensures in
    ends c.args.world.now c.args.low c.loop-done._done c.loop-done.at c.loop-done.boxes.items c.add_tunnel_boxes.new.boxes.items c.loop-done.invariant (omega (arith, all, c.loop-done-test.true)) c.in_ok-add_tunnel_boxes.ensures
    (ap (partner_of c.args.world.now) (sym c.far.ensures) ∙ (sym c.partner.ensures.partner ∙ c.in-None.is))

pub loop-done-preserved : goal.loop-done-preserved
loop-done-preserved c =
    goes_on c.args.world.now c.args.low c.loop-done._done c.loop-done.at c.in-Some.next c.loop-done.boxes.items c.add_tunnel_boxes.new.boxes.items c.loop-done.invariant c.in_ok-add_tunnel_boxes.ensures
    (ap (partner_of c.args.world.now) (sym c.far.ensures) ∙ (sym c.partner.ensures.partner ∙ c.in-Some.is)) c.in-Some.ensures.inside

pub returns : goal.returns
returns c =
    let all = half_of c.args.world.now c.slot_count-done-end.result c.slot_count-done-end.ensures in
    let passed = c.loop-done-test.false in
    let most = c.loop-done.auto._done-end in
    walked c.args.world.now c.args.low c.loop-done._done c.loop-done.at c.loop-done.boxes.items c.loop-done.invariant (omega (arith, all, passed, most))
