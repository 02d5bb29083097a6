use Rattle.std.proofs.Common.{arith}
use Rattle.mc_part.proofs.Filling.{half_added}
use Rattle.mc_part.proofs.channels.tunnels_in.Goals as goal

pub loop-within-preserved : goal.loop-within-preserved
loop-within-preserved c = half_added c.args.from_here c.args.to_here c.args.tunnels.now c.loop-within.within _ c.tunnel_in.result c.loop-within.made.items c.push.new.self.items (omega arith) c.tunnel_in.ensures c.loop-within.invariant c.in_ok-push.ensures.items
