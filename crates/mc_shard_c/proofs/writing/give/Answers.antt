use Rattle.std.proofs.Common.{◌+◌, ◌<◌, length, drop, sym, rules}
use Rattle.mc_plain.proofs.Written.{written_next}
use Rattle.mc_shard_c.specs.Asking.{plain_at}
use Rattle.mc_shard_c.proofs.Written.{drop_got}
use Rattle.mc_shard_c.proofs.writing.give.Goals as goal

pub loop-i-preserved : goal.loop-i-preserved
loop-i-preserved c =
    let i = c.loop-i.i in
    let room : i < length c.args.out.now = search rules in
    rw c.set.ensures (written_next plain_at i c.args.sent.now.items c.args.out.now c.loop-i.out c.get.result (drop (i + 1) c.args.sent.now.items)
    (drop_got c.args.sent.now.items i c.get.result (sym c.get.ensures)) room c.loop-i.invariant)
