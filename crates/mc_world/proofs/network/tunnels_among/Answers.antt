use Rattle.std.proofs.Common.{◌∙◌, ap, arith}
use Rattle.mc_model.specs.Worlds.{ChannelState}
use Rattle.mc_world.proofs.TunnelTables.{channel_added}
use Rattle.mc_world.proofs.network.tunnels_among.Goals as goal

pub loop-number-preserved : goal.loop-number-preserved
loop-number-preserved c =
    channel_added c.args.channels.now c.loop-number.number c.index-channels-number.result c.deref.result.now c.loop-number.places.items c.add_tunnels.new.places.items
    (omega arith) c.index-channels-number.is (c.deref.ensures.value ∙ ap (λ (ends : ChannelState). ends.tunnels) c.channel.view_is) c.loop-number.invariant c.in_ok-add_tunnels.ensures
