use Rattle.mc_top.proofs.DrawsStop.{answers_stop}
use Rattle.mc_top.proofs.script_network.settle_drawn.Goals as goal

pub returns-clause-stops : goal.returns-clause-stops
returns-clause-stops c =
    answers_stop c.settle_one.result c.args.world c.args.batch.now _ c.settle_one.new.draws.state c.settle_one.ensures.stops
