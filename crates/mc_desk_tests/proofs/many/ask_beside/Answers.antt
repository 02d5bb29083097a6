use Rattle.mc_desk.proofs.Callers.{still_all}
use Rattle.mc_desk_tests.proofs.many.ask_beside.Goals as goal

pub returns : goal.returns
returns g c = still_all c.args.desk.now c.args.operators.now c.each_asks.new.operators c.each_asks.auto.operators c.each_asks.ensures c.requires.operators
