use Rattle.std.proofs.Common.{arith}
use Rattle.mc_team.proofs.Gathered.{keys_more}
use Rattle.mc_team.proofs.Lists.{at_index}
use Rattle.mc_team.proofs.merging.add_keys.Goals as goal

pub loop-index-preserved : goal.loop-index-preserved
loop-index-preserved c =
    keys_more c.args.who c.loop-index.index c.args.log.now _ c.loop-index.keys.items c.push.new.self.items _ c.key_of.result (at_index c.args.log.now c.loop-index.index _ (omega arith)) c.key_of.ensures c.in_ok-push.ensures.items c.loop-index.invariant
