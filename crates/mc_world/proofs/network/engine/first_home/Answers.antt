use Rattle.std.proofs.Common.{arith}
use Rattle.mc_world.proofs.FirstHomes.{none_before}
use Rattle.mc_world.proofs.network.engine.first_home.Goals as goal

pub returns-else-place-homes-clause-none : goal.returns-else-place-homes-clause-none
returns-else-place-homes-clause-none c place below = none_before c.args.counts.now c.find-place.result.0 place c.find-place.result.1 c.find-place.ensures.before (omega (arith, below, c.if-place-homes.false))
