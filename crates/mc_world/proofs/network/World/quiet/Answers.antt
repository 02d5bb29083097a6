use Rattle.mc_world.proofs.Tables.{all_empty}
use Rattle.mc_world.proofs.network.World.quiet.Goals as goal

pub returns : goal.returns
returns c = rw (← c.self.view_is, c.are_empty.ensures, c.deref.ensures.value) (all_empty c.self.inside.lanes.items)
