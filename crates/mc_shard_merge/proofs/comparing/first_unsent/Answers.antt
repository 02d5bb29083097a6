use Rattle.std.proofs.Common.{inl, inr, length, refl, arith}
use Rattle.std.proofs.lemmas.Option.{slice_get_read}
use Rattle.mc_shard_merge.proofs.Among.{taken_more}
use Rattle.mc_shard_merge.proofs.comparing.first_unsent.Goals as goal

pub loop-index-preserved : goal.loop-index-preserved
loop-index-preserved c item among =
    let there = slice_get_read c.args.taker.now (length c.args.taker.now) c.loop-index.index c.index-taker-index.result refl (omega arith) c.index-taker-index.is in
    elim (taken_more c.args.taker.now c.loop-index.index c.index-taker-index.result c.args.into item there among) [
      | inl before ↦ c.loop-index.invariant item before
      | inr here ↦ c.in-Some.ensures item here
    ]
