use Rattle.mc_world.proofs.Running.{world_runs}
use Rattle.mc_world.proofs.network.World.into_engine.Goals as goal

pub invariant_of-result : goal.invariant_of-result
invariant_of-result c = world_runs c.self.inside c.self.invariant
