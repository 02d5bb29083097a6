use Rattle.std.proofs.Common.{◌+◌, arith}
use Rattle.std.proofs.lemmas.Bool.{leb-true}
use Rattle.mc_merge.proofs.Taking.{is_whole}
use Rattle.mc_merge.proofs.merged.is_whole.Goals as goal

pub returns : goal.returns
returns c early =
    is_whole c.args.until c.args.log.now c.get.result c.len-count.result c.requires.climb c.requires.written (omega arith) c.len-count.ensures (omega arith) c.get.ensures
    (leb-true (c.args.log.now.clock + c.get.result.stamp) c.args.until early)
