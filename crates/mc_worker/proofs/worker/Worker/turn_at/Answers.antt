use Rattle.std.proofs.Common.{refl, rules}
use Rattle.mc_worker.proofs.Joins.{no_turns}
use Rattle.mc_worker.proofs.worker.Worker.turn_at.Goals as goal

pub returns-then-item-gt-STAMP_LIMIT-clause-turned : goal.returns-then-item-gt-STAMP_LIMIT-clause-turned
returns-then-item-gt-STAMP_LIMIT-clause-turned c = record {
  turns = no_turns c.args.self.now c.args.progress.now;
  under_way = c.requires.under_way;
  ports = refl;
  made = search rules;
  stopped = refl;
  cause = search rules;
}

pub returns-in-None-clause-turned : goal.returns-in-None-clause-turned
returns-in-None-clause-turned c = record {
  turns = no_turns c.args.self.now c.args.progress.now;
  under_way = search rules;
  ports = search rules;
  made = search rules;
  stopped = refl;
  cause = search rules;
}
