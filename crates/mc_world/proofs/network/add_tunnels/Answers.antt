use Rattle.std.proofs.Common.{arith}
use Rattle.std.proofs.lemmas.Grind.{common_steps}
use Rattle.mc_world.proofs.TunnelTables.{within_more}
use Rattle.mc_world.proofs.network.add_tunnels.Goals as goal

pub loop-within-preserved : goal.loop-within-preserved
loop-within-preserved c =
    let more = within_more c.args.channel 0 c.args.tunnels.now c.loop-within.within (omega arith) in
    grind (arith, common_steps)
