use Rattle.std.proofs.Common.{arith}
use Rattle.mc_stages.proofs.Grows.{cut_at, grows_at, grows_first}
use Rattle.mc_stages.proofs.growing.grow_all.Goals as goal

pub loop-growth-init : goal.loop-growth-init
loop-growth-init c = grows_first c.args.network _ c.requires

pub returns-in-Err-clause-refused : goal.returns-in-Err-clause-refused
returns-in-Err-clause-refused c =
    cut_at c.in-Err.fault c.args.network c.loop-growth.network c.args.growths.now c.loop-growth.growth-index _ (omega (arith, c.loop-growth-test.true))
    c.in-Err.ensures.refused c.loop-growth.invariant

pub loop-growth-preserved : goal.loop-growth-preserved
loop-growth-preserved c =
    grows_at c.args.network c.loop-growth.network c.in-Ok.next c.args.growths.now c.loop-growth.growth-index _ (omega (arith, c.loop-growth-test.true))
    c.in-Ok.ensures.may c.in-Ok.ensures.grown c.loop-growth.invariant
