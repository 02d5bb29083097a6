use Rattle.mc_part.proofs.TunnelsOut.{work_fits_channels}
use Rattle.mc_part.proofs.laws.work_fits_channels.Goals as goal

pub returns : goal.returns
returns c = work_fits_channels
