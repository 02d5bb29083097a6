use Rattle.mc_part.proofs.Ran.{runs_on}
use Rattle.mc_part.proofs.running.pump.Goals as goal

pub returns-in_err-came-clause-run : goal.returns-in_err-came-clause-run
returns-in_err-came-clause-run c = runs_on c.args.part.now c.pump_all_out-went.new.part c.pump_all_in.new.part c.pump_all_out-went.ensures.run c.pump_all_in.ensures.run

pub returns-clause-run : goal.returns-clause-run
returns-clause-run c = runs_on c.args.part.now c.pump_all_out-went.new.part c.pump_all_in.new.part c.pump_all_out-went.ensures.run c.pump_all_in.ensures.run
