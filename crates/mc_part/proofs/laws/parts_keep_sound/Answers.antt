use Rattle.mc_part.proofs.Networks.{parts_keep_sound}
use Rattle.mc_part.proofs.laws.parts_keep_sound.Goals as goal

pub returns : goal.returns
returns c = parts_keep_sound
