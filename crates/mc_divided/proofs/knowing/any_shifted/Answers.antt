use Rattle.std.proofs.Common.{◌≡◌, ◌∙◌, IsTrue, Some, slice_get, sym, ap, subst, arith}
use Rattle.mc_part.specs.declared.part_run.PartRun.{PartRun}
use Rattle.mc_divided.specs.Commanding.{HasNoShifts}
use Rattle.mc_divided.proofs.Ends.{each_all, each_next}
use Rattle.mc_divided.proofs.Lists.{there_at}
use Rattle.mc_divided.proofs.knowing.any_shifted.Goals as goal

pub loop-place-preserved : goal.loop-place-preserved
loop-place-preserved c =
    let there : slice_get c.args.runs.now c.loop-place.place ≡ Some c.index-runs-place.result = there_at c.args.runs.now c.loop-place.place c.index-runs-place.result (omega arith) ∙ ap (λ (r : PartRun). Some r) (sym c.index-runs-place.is) in
    each_next HasNoShifts c.args.runs.now c.loop-place.place c.index-runs-place.result there
    ((c.requires c.loop-place.place c.index-runs-place.result there).shifts (subst (λ (r : PartRun). IsTrue r.known.unshifted) (sym c.index-runs-place.is) c.if-not-runs-place.false)) c.loop-place.invariant

pub returns : goal.returns
returns c none = each_all HasNoShifts c.args.runs.now c.loop-place.place (omega arith) c.loop-place.invariant
