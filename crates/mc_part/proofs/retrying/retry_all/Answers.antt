use Rattle.std.proofs.Common.{◌∙◌, ℕ, refl, arith}
use Rattle.mc_part.specs.Retries.{below_box, owed_in}
use Rattle.mc_part.proofs.Retries.{boxes_more, none_below, some_on}
use Rattle.mc_part.proofs.retrying.retry_all.Goals as goal

pub loop-who-init : goal.loop-who-init
loop-who-init g c = record { retried = none_below c.args.part.now c.requires.within; boxes = λ at low. refl; within = c.requires.within; few = omega arith }

pub returns-in_err-retry_box-clause-some : goal.returns-in_err-retry_box-clause-some
returns-in_err-retry_box-clause-some g c =
    some_on c.args.part.now c.loop-who.part c.retry_box.new.part (owed_in (below_box c.loop-who.who) c.args.part.now) c.loop-who.invariant.retried c.retry_box.ensures.some

pub loop-who-preserved : goal.loop-who-preserved
loop-who-preserved g c =
    let a = c.args.part.now in
    let b = c.loop-who.part in
    let d = c.retry_box.new.part in
    let k : ℕ = c.loop-who.who in
    record {
      retried = boxes_more a b d k c.loop-who.invariant.retried.run.spanned.work.box_count (c.loop-who.invariant.boxes k (omega arith)) c.loop-who.invariant.retried c.in_ok-retry_box.ensures.retried;
      boxes = λ at low. c.retry_box.ensures.only.boxes at (λ same. absurd (omega (arith, low, same))) ∙ c.loop-who.invariant.boxes at (omega (arith, low));
      within = c.retry_box.ensures.within;
      few = omega (arith, c.retry_box.ensures.few, c.loop-who.invariant.few);
    }
