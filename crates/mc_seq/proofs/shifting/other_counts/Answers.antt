use Rattle.std.proofs.Common.{◌≤◌, ◌<◌, ◌+◌, ℕ, List, length, sym, ap, subst, arith}
use Rattle.std.proofs.Math.ListN.{get_or}
use Rattle.std.proofs.lemmas.Grind.{common_steps}
use Rattle.mc_box.specs.Boxes.{BoxState}
use Rattle.mc_seq.specs.Commands.{commands_left}
use Rattle.mc_seq.specs.Ready.{CountsEach}
use Rattle.mc_seq.specs.Spare.{others_of}
use Rattle.mc_seq.proofs.Counting.{counts_more, small_more, who_fits}
use Rattle.mc_seq.proofs.shifting.other_counts.Goals as goal

pub overflow_cast-who : goal.overflow_cast-who
overflow_cast-who c = let low = who_fits c.args.world.now c.loop-who.who c.keeps.ensures.sound (subst (λ (n : ℕ). c.loop-who.who < n) (ap (λ (boxes : List BoxState). length boxes) c.boxes-boxes.ensures) c.loop-who-test.true) in grind (arith, common_steps)

pub loop-who-preserved : goal.loop-who-preserved
loop-who-preserved c = record {
  others = subst (λ (l : List ℕ). CountsEach (others_of c.args.world.now (commands_left c.args.left.now) c.args.spare.now) l (c.loop-who.who + 1)) (sym c.in_ok-push.ensures.items)
      (counts_more (others_of c.args.world.now (commands_left c.args.left.now) c.args.spare.now) c.loop-who.counts.items c.loop-who.who c.other_count.result c.loop-who.invariant.others c.other_count.ensures.count);
  small = subst (λ (l : List ℕ). (who : ℕ) → get_or l who 0 ≤ 2) (sym c.in_ok-push.ensures.items) (small_more c.loop-who.counts.items c.other_count.result 2 c.loop-who.invariant.small c.other_count.ensures.small);
  few = (let low = who_fits c.args.world.now c.loop-who.who c.keeps.ensures.sound (subst (λ (n : ℕ). c.loop-who.who < n) (ap (λ (boxes : List BoxState). length boxes) c.boxes-boxes.ensures) c.loop-who-test.true) in omega arith);
}
