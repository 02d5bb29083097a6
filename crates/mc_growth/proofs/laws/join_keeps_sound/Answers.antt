use Rattle.mc_growth.proofs.JoinedSound.{join_keeps_sound}
use Rattle.mc_growth.proofs.laws.join_keeps_sound.Goals as goal

pub returns : goal.returns
returns c = join_keeps_sound
