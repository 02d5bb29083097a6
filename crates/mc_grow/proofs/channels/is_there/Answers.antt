use Rattle.mc_grow.proofs.Asking.{there_by}
use Rattle.mc_grow.proofs.channels.is_there.Goals as goal

pub returns : goal.returns
returns c = there_by c.args.world.now c.args.channel c.first_from.result c.slot_count.result c.keeps.ensures.channels c.first_from.ensures c.slot_count.ensures
