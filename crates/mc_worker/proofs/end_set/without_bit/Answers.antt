use Rattle.mc_worker.proofs.Waiting.{removed}
use Rattle.mc_worker.proofs.end_set.without_bit.Goals as goal

pub returns : goal.returns
returns c k = removed c.args.bits c.args.place k c.requires c.ranges.bits.fits
