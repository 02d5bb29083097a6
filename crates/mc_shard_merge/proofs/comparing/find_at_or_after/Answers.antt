use Rattle.std.proofs.Common.{length, refl, arith}
use Rattle.std.proofs.lemmas.Option.{slice_get_read}
use Rattle.mc_shard_merge.proofs.Among.{sent_in, sent_later}
use Rattle.mc_shard_merge.proofs.comparing.find_at_or_after.Goals as goal

pub returns-then-entry_sent-clause-some : goal.returns-then-entry_sent-clause-some
returns-then-entry_sent-clause-some c =
    let there = slice_get_read c.args.journal.now (length c.args.journal.now) c.loop-index.index c.index-journal-index.result refl (omega arith) c.index-journal-index.is in
    sent_in c.args.journal.now c.loop-index.index c.index-journal-index.result c.args.wanted.end c.args.wanted.item there c.if-entry_sent.ensures

pub loop-index-preserved : goal.loop-index-preserved
loop-index-preserved c among =
    let there = slice_get_read c.args.journal.now (length c.args.journal.now) c.loop-index.index c.index-journal-index.result refl (omega arith) c.index-journal-index.is in
    sent_later c.args.journal.now c.loop-index.index c.index-journal-index.result c.args.wanted.end c.args.wanted.item there c.if-entry_sent.ensures (c.loop-index.invariant among)
