use Rattle.std.proofs.Common.{arith}
use Rattle.mc_top.proofs.ShownSettles.{views_at}
use Rattle.mc_top.proofs.checking.print_told.Goals as goal

pub print_one-requires : goal.print_one-requires
print_one-requires c =
    rw (c.deref.ensures.value, c.index-shown-index.is)
    (views_at c.args.names.now c.args.shown.now c.loop-index.index c.index-shown-index.result (omega (arith, c.loop-index-test.true)) c.requires.named)
