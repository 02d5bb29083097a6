use Rattle.mc_snapshot.proofs.Written.{fits_written, kept_written, on_ok_weaker}
use Rattle.mc_snapshot.proofs.shards.write_shard.Goals as goal

pub returns-clause-kept : goal.returns-clause-kept
returns-clause-kept c = on_ok_weaker c.put.result (λ written. kept_written c.args.shard.now c.keeps.ensures written) c.put.ensures.fits

pub returns-clause-fits : goal.returns-clause-fits
returns-clause-fits c = on_ok_weaker c.put.result (λ written. fits_written c.args.shard.now written) c.put.ensures.fits
