use Rattle.mc_divided.proofs.BetweenSettles.{free_now}
use Rattle.mc_divided.proofs.knowing.end_settle.Goals as goal

pub returns-clause-divided : goal.returns-clause-divided
returns-clause-divided c = free_now c.args.network.now c.requires.divided c.requires.free
