use Rattle.mc_world.proofs.PlaceTables.{channel_more}
use Rattle.mc_world.proofs.network.places_among.Goals as goal

pub loop-channel-preserved : goal.loop-channel-preserved
loop-channel-preserved c = channel_more c.args.channels.now c.loop-channel.channel-index c.channel-item.result _ _ c.loop-channel-test.true c.channel-item.is c.loop-channel.invariant c.in_ok-add_places.ensures
