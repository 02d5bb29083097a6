use Rattle.mc_plan.proofs.Layouts.{layouts_stay_sound}
use Rattle.mc_plan.proofs.laws.layouts_stay_sound.Goals as goal

pub returns : goal.returns
returns c = layouts_stay_sound
