use Rattle.mc_plan.proofs.Layouts.{setups_programmed}
use Rattle.mc_plan.proofs.programs.set_program.Goals as goal

pub returns : goal.returns
returns c = setups_programmed c.args.setups.now.items c.args.who c.index_mut.result.now c.args.program c.requires c.index_mut.ensures.value
