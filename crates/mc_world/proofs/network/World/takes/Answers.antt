use Rattle.mc_world.proofs.Waits.{takes_counted}
use Rattle.mc_world.proofs.network.World.takes.Goals as goal

pub returns : goal.returns
returns c = rw (← c.self.view_is) (takes_counted c.self.inside c.self.invariant)
