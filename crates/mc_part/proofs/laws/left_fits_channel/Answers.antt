use Rattle.mc_part.proofs.TunnelsOut.{left_fits_channel}
use Rattle.mc_part.proofs.laws.left_fits_channel.Goals as goal

pub returns : goal.returns
returns c = left_fits_channel
