use Rattle.mc_laws.proofs.NewWorlds.{first_is_sound}
use Rattle.mc_laws.proofs.laws.first_is_sound.Goals as goal

pub returns : goal.returns
returns c = first_is_sound
