use Rattle.std.proofs.Common.{◌∙◌, refl}
use Rattle.mc_part.proofs.Ran.{run_ports, runs_none, runs_on, still_away}
use Rattle.mc_part.specs.Parts.{no_retries}
use Rattle.mc_part.proofs.pumping.pump_out_at.Goals as goal

pub loop-init : goal.loop-init
loop-init c = record { run = runs_none c.args.part.now c.requires.within; within = c.requires.within; log = refl; ports = refl }

pub give_one-requires-clause-away : goal.give_one-requires-clause-away
give_one-requires-clause-away c = still_away c.args.part.now c.loop.part no_retries c.loop.invariant.run c.requires.away

pub loop-preserved : goal.loop-preserved
loop-preserved c = record {
  run = runs_on c.args.part.now c.loop.part c.give_one.new.part c.loop.invariant.run c.give_one.ensures.run;
  within = c.give_one.ensures.within;
  log = c.give_one.ensures.log ∙ c.loop.invariant.log;
  ports = run_ports c.loop.part c.give_one.new.part no_retries c.give_one.ensures.run ∙ c.loop.invariant.ports;
}

pub returns-then-not-give_one-clause-run : goal.returns-then-not-give_one-clause-run
returns-then-not-give_one-clause-run c = runs_on c.args.part.now c.loop.part c.give_one.new.part c.loop.invariant.run c.give_one.ensures.run
