use Rattle.mc_world.proofs.TopologyLanes.{tables_numbers}
use Rattle.mc_world.proofs.Waits.{kth_before, kth_inside, kth_there}
use Rattle.mc_world.proofs.network.World.kth_take.Goals as goal

pub kth-requires-clause-numbers : goal.kth-requires-clause-numbers
kth-requires-clause-numbers c = tables_numbers c.self.inside c.self.invariant

pub kth-requires-clause-inside : goal.kth-requires-clause-inside
kth-requires-clause-inside c = kth_inside c.self.inside c.args.self.now c.args.who c.args.k c.self.invariant c.self.view_is c.requires

pub returns-clause-before : goal.returns-clause-before
returns-clause-before c = kth_before c.self.inside c.args.self.now c.args.who c.kth.result c.args.k c.self.invariant c.self.view_is c.kth.ensures.before

pub returns-clause-there : goal.returns-clause-there
returns-clause-there c = kth_there c.self.inside c.args.self.now c.args.who c.kth.result c.self.invariant c.self.view_is c.kth.ensures.there
