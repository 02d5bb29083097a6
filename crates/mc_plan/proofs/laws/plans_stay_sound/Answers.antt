use Rattle.mc_plan.proofs.Numbered.{plans_stay_sound}
use Rattle.mc_plan.proofs.laws.plans_stay_sound.Goals as goal

pub returns : goal.returns
returns c = plans_stay_sound
