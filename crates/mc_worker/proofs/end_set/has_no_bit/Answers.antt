use Rattle.mc_worker.proofs.Waiting.{no_bit}
use Rattle.mc_worker.proofs.end_set.has_no_bit.Goals as goal

pub returns : goal.returns
returns c = no_bit c.args.bits c.ranges.bits.fits
