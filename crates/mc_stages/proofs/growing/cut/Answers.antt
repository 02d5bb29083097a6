use Rattle.std.proofs.Common.{rules, ◌≡◌, sym, subst, ◌<◌}
use Rattle.mc_growth.specs.Outs.{least_used}
use Rattle.mc_model.specs.Worlds.{WorldState, slot_count}
use Rattle.mc_stages.proofs.Grows.{used_inside, used_slot}
use Rattle.mc_stages.proofs.growing.cut.Goals as goal

pub place-place-requires : goal.place-place-requires
place-place-requires c =
    let inside = used_inside c.args.network.world c.args.channel c.in-Err.field-0.slot
    (used_slot (least_used c.args.network.world c.args.channel) c.in-Err.field-0 c.in-Err.ensures.answer) in
    let same : c.world.result.now ≡ c.args.network.world = search rules in
    subst (λ (w : WorldState). c.in-Err.field-0.slot < slot_count w) (sym same) inside
