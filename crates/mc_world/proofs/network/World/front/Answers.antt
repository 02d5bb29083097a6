use Rattle.mc_world.proofs.WorldSteps.{front_is}
use Rattle.mc_world.proofs.network.World.front.Goals as goal

pub returns : goal.returns
returns c = front_is c.args.self.now c.args.slot _ _ _ c.toward-toward.ensures.lane c.toward-toward.ensures.tunnel c.front_in.ensures
