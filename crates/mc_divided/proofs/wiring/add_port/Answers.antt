use Rattle.mc_part.proofs.Shares.{list_longer}
use Rattle.mc_divided.proofs.wiring.add_port.Goals as goal

pub returns-clause-added : goal.returns-clause-added
returns-clause-added c = list_longer c.args.ports.now.items c.args.part c.index_mut-own.result.now c.push.new.self c.args.port c.requires.there c.index_mut-own.ensures.value c.in_ok-push.ensures.items
