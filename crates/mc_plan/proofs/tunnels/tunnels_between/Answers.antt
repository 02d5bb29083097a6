use Rattle.mc_signal.specs.declared.Medium.TheVariants.{Audio}
use Rattle.mc_plan.proofs.Slots.{tunnels_more}
use Rattle.mc_plan.proofs.tunnels.tunnels_between.Goals as goal

pub loop-i-preserved : goal.loop-i-preserved
loop-i-preserved c =
    let more = tunnels_more c.args.near c.args.far c.args.media.now c.loop-i.i Audio c.loop-i-test.true in
    cc c.in_ok-push.ensures.items
