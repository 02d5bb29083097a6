use Rattle.std.proofs.Common.{◌<◌, ap, arith, length, ℕ, subst}
use Rattle.mc_replay.proofs.CountsKept.{counted_fits, counted_more}
use Rattle.mc_replay.proofs.counts.count_all.Goals as goal

pub overflow_add-counts : goal.overflow_add-counts
overflow_add-counts c =
    let fits = counted_fits c.args.world.now c.loop-who.who c.loop-who.counts c.counts_of-more.result c.keeps.ensures.sound
    (subst (λ (n : ℕ). c.loop-who.who < n) (ap length c.boxes-who-end.ensures) c.loop-who-test.true) c.loop-who.invariant c.counts_of-more.ensures in
    omega arith

pub loop-who-preserved : goal.loop-who-preserved
loop-who-preserved c =
    counted_more c.args.world.now c.loop-who.who c.loop-who.counts c.counts_of-more.result c.keeps.ensures.sound
    (subst (λ (n : ℕ). c.loop-who.who < n) (ap length c.boxes-who-end.ensures) c.loop-who-test.true) c.loop-who.invariant c.counts_of-more.ensures
