use Rattle.std.proofs.Common.{◌∙◌, refl}
use Rattle.mc_part.proofs.Ran.{run_ports, runs_none, runs_on, still_away}
use Rattle.mc_part.specs.Parts.{no_retries}
use Rattle.mc_part.proofs.pumping.pump_all_in.Goals as goal

pub loop-channel-init : goal.loop-channel-init
loop-channel-init c = record { run = runs_none c.args.part.now c.requires.within; within = c.requires.within; log = refl; ports = refl }

pub pump_in_at-requires-clause-away : goal.pump_in_at-requires-clause-away
pump_in_at-requires-clause-away c = still_away c.args.part.now c.loop-channel.part no_retries c.loop-channel.invariant.run c.requires.away

pub loop-channel-preserved : goal.loop-channel-preserved
loop-channel-preserved c = record {
  run = runs_on c.args.part.now c.loop-channel.part c.pump_in_at.new.part c.loop-channel.invariant.run c.pump_in_at.ensures.run;
  within = c.pump_in_at.ensures.within;
  log = c.pump_in_at.ensures.log ∙ c.loop-channel.invariant.log;
  ports = run_ports c.loop-channel.part c.pump_in_at.new.part no_retries c.pump_in_at.ensures.run ∙ c.loop-channel.invariant.ports;
}

pub returns-in_err-came-clause-run : goal.returns-in_err-came-clause-run
returns-in_err-came-clause-run c = runs_on c.args.part.now c.loop-channel.part c.pump_in_at.new.part c.loop-channel.invariant.run c.pump_in_at.ensures.run
