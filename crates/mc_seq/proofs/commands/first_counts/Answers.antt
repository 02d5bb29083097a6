use Rattle.std.proofs.Common.{◌≤◌, ◌<◌, ◌+◌, ℕ, List, length, sym, ap, subst, arith}
use Rattle.std.proofs.Math.ListN.{get_or}
use Rattle.mc_box.specs.Boxes.{BoxState}
use Rattle.mc_seq.specs.Commands.{first_of, queues_of}
use Rattle.mc_seq.specs.Ready.{CountsEach}
use Rattle.mc_seq.proofs.Counting.{counts_more, small_more, who_fits}
use Rattle.mc_seq.proofs.commands.first_counts.Goals as goal

pub loop-who-preserved : goal.loop-who-preserved
loop-who-preserved c = record {
  first = subst (λ (l : List ℕ). CountsEach (first_of (queues_of c.args.queues.now)) l (c.loop-who.who + 1)) (sym c.in_ok-push.ensures.items)
      (counts_more (first_of (queues_of c.args.queues.now)) c.loop-who.counts.items c.loop-who.who c.first_count.result c.loop-who.invariant.first c.first_count.ensures.count);
  small = subst (λ (l : List ℕ). (who : ℕ) → get_or l who 0 ≤ 1) (sym c.in_ok-push.ensures.items) (small_more c.loop-who.counts.items c.first_count.result 1 c.loop-who.invariant.small c.first_count.ensures.small);
  few = (let low = who_fits c.args.world.now c.loop-who.who c.keeps.ensures.sound (subst (λ (n : ℕ). c.loop-who.who < n) (ap (λ (boxes : List BoxState). length boxes) c.boxes-boxes.ensures) c.loop-who-test.true) in omega arith);
}
