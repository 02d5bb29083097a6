use Rattle.mc_plan.proofs.Layouts.{plans_give_layouts, programs_keep_layouts}
use Rattle.mc_plan.proofs.laws.programs_keep_layouts.Goals as goal

pub returns : goal.returns
returns c = record { plans = plans_give_layouts; programs = programs_keep_layouts }
