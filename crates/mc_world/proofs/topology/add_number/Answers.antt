use Rattle.mc_world.proofs.JoinedTables.{number_added}
use Rattle.mc_world.proofs.topology.add_number.Goals as goal

pub returns-clause-numbers : goal.returns-clause-numbers
returns-clause-numbers c = number_added c.args.numbers.now.items c.args.who c.args.slot c.index_mut-list.result.now c.push.new.self c.requires c.index_mut-list.ensures.value c.in_ok-push.ensures.items
