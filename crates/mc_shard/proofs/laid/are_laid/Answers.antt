use Rattle.std.proofs.Common.{arith}
use Rattle.mc_shard.proofs.Owned.{all_laid, one_more, one_unlaid}
use Rattle.mc_shard.proofs.laid.are_laid.Goals as goal

pub returns-then-not-are_own : goal.returns-then-not-are_own
returns-then-not-are_own c = one_unlaid c.args.boxes.now c.args.places.now c.args.owners.now c.loop-who.who c.index-places-who.result c.loop-who-test.true c.index-places-who.is c.if-not-are_own.ensures

pub loop-who-preserved : goal.loop-who-preserved
loop-who-preserved c = record {
  count = c.loop-who.invariant.count;
  own = one_more c.args.places.now c.args.owners.now c.loop-who.who c.index-places-who.result c.loop-who-test.true c.index-places-who.is c.if-not-are_own.ensures c.loop-who.invariant.own;
}

pub returns : goal.returns
returns c = all_laid c.args.boxes.now c.args.places.now c.args.owners.now c.loop-who.invariant.count (λ who low. c.loop-who.invariant.own who (omega (arith, c.loop-who-test.false)))
