use Rattle.std.proofs.Common.{rules}
use Rattle.mc_worker.proofs.Joins.{turns_joined}
use Rattle.mc_worker.proofs.Turning.{only_looked}
use Rattle.mc_worker.proofs.worker.Worker.turn_found.Goals as goal

pub returns-in-Some-clause-turned : goal.returns-in-Some-clause-turned
returns-in-Some-clause-turned g c = record {
  turns = turns_joined _ _ _ _ _ _ (only_looked _ _ _ _ c.look.ensures.looked.work c.look.ensures.numbers) c.turn_at.ensures.turned.turns;
  under_way = c.turn_at.ensures.turned.under_way;
  ports = search rules;
  made = search rules;
  stopped = search rules;
  cause = c.turn_at.ensures.turned.cause;
}

pub returns-in-None-clause-turned : goal.returns-in-None-clause-turned
returns-in-None-clause-turned g c = record {
  turns = only_looked _ _ _ _ c.look.ensures.looked.work c.look.ensures.numbers;
  under_way = search rules;
  ports = c.look.ensures.looked.ports;
  made = search rules;
  stopped = search rules;
  cause = search rules;
}
