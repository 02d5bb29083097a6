use Rattle.std.proofs.Common.{◌≡◌, ◌∙◌, Some, slice_get, sym, ap, arith}
use Rattle.mc_part.specs.declared.part_run.PartRun.{PartRun}
use Rattle.mc_divided.specs.Commanding.{IsNoneLeft}
use Rattle.mc_divided.proofs.Ends.{each_all, each_next}
use Rattle.mc_divided.proofs.Lists.{there_at}
use Rattle.mc_divided.proofs.commands.any_left.Goals as goal

pub returns-then-has_left-clause-some : goal.returns-then-has_left-clause-some
returns-then-has_left-clause-some c on = record {
  part = c.loop-place.place;
  run = c.index-runs-place.result;
  there = there_at c.args.runs.now c.loop-place.place c.index-runs-place.result (omega arith) ∙ ap (λ (r : PartRun). Some r) (sym c.index-runs-place.is);
  some = c.has_left.ensures.some c.if-has_left.true;
}

pub loop-place-preserved : goal.loop-place-preserved
loop-place-preserved c =
    let there : slice_get c.args.runs.now c.loop-place.place ≡ Some c.index-runs-place.result = there_at c.args.runs.now c.loop-place.place c.index-runs-place.result (omega arith) ∙ ap (λ (r : PartRun). Some r) (sym c.index-runs-place.is) in
    each_next IsNoneLeft c.args.runs.now c.loop-place.place c.index-runs-place.result there (c.has_left.ensures.none c.if-has_left.false) c.loop-place.invariant

pub returns-clause-none : goal.returns-clause-none
returns-clause-none c off = each_all IsNoneLeft c.args.runs.now c.loop-place.place (omega arith) c.loop-place.invariant
