use Rattle.std.proofs.Common.{slice_index_or, arith}
use Rattle.mc_divided.proofs.Ends.{all_chosen, chosen_more, woken}
use Rattle.mc_divided.proofs.Lists.{there_at}
use Rattle.mc_divided.proofs.choosing.choose.Goals as goal

pub loop-place-preserved : goal.loop-place-preserved
loop-place-preserved c = chosen_more c.args.every c.args.runs.now c.loop-place.runs c.loop-place.place
    (slice_index_or c.loop-place.runs c.loop-place.place c.index-runs-place.result) c.begin_run.new.run
    (there_at c.loop-place.runs c.loop-place.place c.index-runs-place.result (omega (arith, c.loop-place.invariant.count))) c.begin_run.ensures c.loop-place.invariant

pub loop-place-2-init : goal.loop-place-2-init
loop-place-2-init c = all_chosen c.args.every c.args.runs.now c.loop-place.runs c.loop-place.place (omega (arith, c.loop-place.invariant.count)) c.loop-place.invariant

pub loop-place-2-preserved : goal.loop-place-2-preserved
loop-place-2-preserved c = woken c.args.every c.args.runs.now c.loop-place-2.runs c.reach.new.runs c.loop-place-2.invariant c.reach.ensures
