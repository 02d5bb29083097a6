use Rattle.mc_worker.proofs.Waiting.{inserted}
use Rattle.mc_worker.proofs.end_set.with_bit.Goals as goal

pub returns : goal.returns
returns c k = inserted c.args.bits c.args.place k c.requires
