use Rattle.std.proofs.Common.{◌∙◌, refl}
use Rattle.mc_part.proofs.Ran.{run_ports, runs_none, runs_on, still_away}
use Rattle.mc_part.specs.Parts.{no_retries}
use Rattle.mc_part.proofs.pumping.pump_all_out.Goals as goal

pub loop-channel-init : goal.loop-channel-init
loop-channel-init c = record { run = runs_none c.args.part.now c.requires.within; within = c.requires.within; log = refl; ports = refl }

pub pump_out_at-went-requires-clause-away : goal.pump_out_at-went-requires-clause-away
pump_out_at-went-requires-clause-away c = still_away c.args.part.now c.loop-channel.part no_retries c.loop-channel.invariant.run c.requires.away

pub loop-channel-preserved : goal.loop-channel-preserved
loop-channel-preserved c = record {
  run = runs_on c.args.part.now c.loop-channel.part c.pump_out_at-went.new.part c.loop-channel.invariant.run c.pump_out_at-went.ensures.run;
  within = c.pump_out_at-went.ensures.within;
  log = c.pump_out_at-went.ensures.log ∙ c.loop-channel.invariant.log;
  ports = run_ports c.loop-channel.part c.pump_out_at-went.new.part no_retries c.pump_out_at-went.ensures.run ∙ c.loop-channel.invariant.ports;
}
