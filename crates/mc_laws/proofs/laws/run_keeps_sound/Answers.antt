use Rattle.mc_laws.proofs.StepKeeps.{run_keeps_sound}
use Rattle.mc_laws.proofs.laws.run_keeps_sound.Goals as goal

pub returns : goal.returns
returns c = run_keeps_sound
