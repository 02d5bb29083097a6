use Rattle.mc_merge.proofs.Phases.{phase_keeps_sound}
use Rattle.mc_merge.proofs.laws.phase_keeps_sound.Goals as goal

pub returns : goal.returns
returns c = phase_keeps_sound
