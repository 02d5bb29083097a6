use Rattle.mc_laws.proofs.StepKeeps.{step_keeps_sound}
use Rattle.mc_laws.proofs.laws.step_keeps_sound.Goals as goal

pub returns : goal.returns
returns c = step_keeps_sound
