use Rattle.std.proofs.Common.{◌≡◌, ◌∙◌, ℕ, Some, Option, slice_get, sym, ap, subst, arith}
use Rattle.mc_part.specs.declared.part_run.PartRun.{PartRun}
use Rattle.mc_divided.specs.Phasing.{EndsWell, StopIs}
use Rattle.mc_divided.proofs.Ends.{each_all, each_next}
use Rattle.mc_divided.proofs.Lists.{there_at}
use Rattle.mc_divided.proofs.phase.first_end.Goals as goal

pub returns-in-Some : goal.returns-in-Some
returns-in-Some c = record {
  part = c.loop-part.part;
  run = c.index-runs-part.result;
  who = c.in-Some.who;
  there = there_at c.args.runs.now c.loop-part.part c.index-runs-part.result (omega arith) ∙ ap (λ (r : PartRun). Some r) (sym c.index-runs-part.is);
  ended = subst (λ (o : Option (ℕ × ℕ)). StopIs c.index-runs-part.result.ended o) c.in-Some.is c.in_ok-who.ensures;
  is = c.number_in.ensures;
}

pub loop-part-preserved : goal.loop-part-preserved
loop-part-preserved c =
    let there : slice_get c.args.runs.now c.loop-part.part ≡ Some c.index-runs-part.result = there_at c.args.runs.now c.loop-part.part c.index-runs-part.result (omega arith) ∙ ap (λ (r : PartRun). Some r) (sym c.index-runs-part.is) in
    each_next (λ (run : PartRun). EndsWell run.ended) c.args.runs.now c.loop-part.part c.index-runs-part.result there
    (subst (λ (o : Option (ℕ × ℕ)). StopIs c.index-runs-part.result.ended o) c.in_default.is c.in_ok-who.ensures) c.loop-part.invariant

pub returns : goal.returns
returns c = each_all (λ (run : PartRun). EndsWell run.ended) c.args.runs.now c.loop-part.part (omega arith) c.loop-part.invariant
