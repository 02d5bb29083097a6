use Rattle.mc_world.specs.Lanes.{lane_by}
use Rattle.mc_model.specs.Worlds.{far}
use Rattle.mc_world.proofs.lanes.relay.Goals as goal

pub send_all-requires-clause-room : goal.send_all-requires-clause-room
send_all-requires-clause-room c i d below s is = c.pop_front.ensures.room (lane_by c.args.topology.now (far s)) c.args.sends.now.len (c.requires.room i d below s is)
