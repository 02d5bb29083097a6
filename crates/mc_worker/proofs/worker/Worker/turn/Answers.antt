use Rattle.std.proofs.Common.{rules}
use Rattle.mc_worker.proofs.Turning.{acted_turns}
use Rattle.mc_worker.proofs.worker.Worker.turn.Goals as goal

pub returns-in-Some-clause-turned : goal.returns-in-Some-clause-turned
returns-in-Some-clause-turned g c =
    let next = c.in-Some.ensures.some in
    record {
      turns = acted_turns c.turn_act.result c.args.self.now c.turn_act.new.self c.args.progress.now c.turn_act.new.progress c.in-Some.event next.no_retry next.begins c.turn_act.ensures.made;
      under_way = c.turn_act.ensures.under_way;
      ports = c.turn_act.ensures.nothing.ports;
      made = search rules;
      stopped = search rules;
      cause = c.turn_act.ensures.cause;
    }
