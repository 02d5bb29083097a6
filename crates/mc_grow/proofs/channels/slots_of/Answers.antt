use Rattle.mc_grow.proofs.Cutting.{slots_found}
use Rattle.mc_grow.proofs.channels.slots_of.Goals as goal

pub returns : goal.returns
returns c = slots_found c.args.world.now c.args.channel c.first_from.result c.first_from-end.result c.first_from.ensures c.first_from-end.ensures
