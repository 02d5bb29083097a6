use Rattle.std.proofs.Common.{◌∙◌, sym, arith}
use Rattle.mc_divided.specs.Commanding.{IsKnownAnew}
use Rattle.mc_divided.proofs.Changed.{all_changed, next_changed}
use Rattle.mc_divided.proofs.Lists.{there_at}
use Rattle.mc_divided.proofs.knowing.look_over.Goals as goal

pub look_at-requires : goal.look_at-requires
look_at-requires c =
    c.requires c.loop-place.place _ (sym (c.loop-place.invariant.rest c.loop-place.place (omega arith)) ∙ there_at c.loop-place.runs c.loop-place.place c.index-runs-place.result (omega arith))

pub loop-place-preserved : goal.loop-place-preserved
loop-place-preserved c =
    next_changed IsKnownAnew c.loop-place.place c.args.runs.now c.loop-place.runs _ c.look_at.new.run (there_at c.loop-place.runs c.loop-place.place c.index-runs-place.result (omega arith)) c.look_at.ensures c.loop-place.invariant

pub returns : goal.returns
returns c = all_changed IsKnownAnew c.loop-place.place c.args.runs.now c.loop-place.runs (omega arith) c.loop-place.invariant
