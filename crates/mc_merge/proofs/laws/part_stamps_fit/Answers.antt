use Rattle.mc_merge.proofs.Clocks.{part_stamps_fit}
use Rattle.mc_merge.proofs.laws.part_stamps_fit.Goals as goal

pub returns : goal.returns
returns c = part_stamps_fit
