use Rattle.std.proofs.Common.{arith}
use Rattle.mc_top.proofs.ShownSettles.{views_at}
use Rattle.mc_top.proofs.checking.print_settles.Goals as goal

pub put_settle-requires : goal.put_settle-requires
put_settle-requires c =
    rw (c.deref.ensures.value, c.index-shown-index.is)
    (views_at c.args.names.now c.args.shown.now c.loop-index.index c.index-shown-index.result (omega (arith, c.loop-index-test.true)) c.requires.named)
