use Rattle.std.proofs.Common.{◌<◌, arith}
use Rattle.mc_model.specs.Worlds.{slot_count}
use Rattle.mc_world.specs.Tables.{world_state}
use Rattle.mc_world.proofs.Tables.{channel_below, tunnel_below, tunnel_read}
use Rattle.mc_world.proofs.network.World.channel.Goals as goal

pub index-requires : goal.index-requires
index-requires c =
    let below = tunnel_below c.self.inside c.args.slot c.self.invariant (rw (← c.self.view_is) at c.requires) in
    omega arith

pub returns-clause-channel : goal.returns-clause-channel
returns-clause-channel c = rw (← c.self.view_is) (tunnel_read c.self.inside c.args.slot c.index.result.now c.self.invariant (rw (← c.self.view_is) at c.requires) c.index.ensures)

pub returns-clause-there : goal.returns-clause-there
returns-clause-there c =
    let slot : c.args.slot < slot_count (world_state c.self.inside) = rw (← c.self.view_is) at c.requires in
    rw (← c.self.view_is, tunnel_read c.self.inside c.args.slot c.index.result.now c.self.invariant slot c.index.ensures) (channel_below c.self.inside c.args.slot slot)
