use Rattle.std.proofs.Common.{◌≡◌, ◌+◌, ap, arith}
use Rattle.mc_world.specs.Waiting.{bit, flag_count}
use Rattle.mc_world.proofs.FlagCounts.{count_more, number_there}
use Rattle.mc_world.proofs.waiting.Waiting.kth.Goals as goal
use Rattle.mc_world.proofs.waiting.Waiting.kth.Goals.{then-index+else-rest-eq0, else-index}

pub index-requires : goal.index-requires
index-requires c =
    omega (arith, number_there c.args.topology.now c.args.who c.loop-local.local c.numbers-numbers.result.now c.requires.numbers c.numbers-numbers.ensures c.loop-local-test.true, c.requires.counted.flags)

pub loop-local-preserved : goal.loop-local-preserved
loop-local-preserved c =
    let there = number_there c.args.topology.now c.args.who c.loop-local.local c.numbers-numbers.result.now c.requires.numbers c.numbers-numbers.ensures c.loop-local-test.true in
    let more = count_more c.args.topology.now c.args.self.now.flags.items c.args.who c.loop-local.local c.numbers-numbers.result.now c.index.result.now _ c.numbers-numbers.ensures c.loop-local-test.true (omega (arith, there, c.requires.counted.flags)) c.index.ensures in
    let sum : flag_count c.args.topology.now c.args.self.now.flags.items c.args.who (c.loop-local.local + 1) + c.if-index.rest ≡ c.args.k =
    elim c.if-index.branch [
      | then-index+else-rest-eq0 w ↦ omega (arith, more, ap bit w.if-index.true, w.rest-is, w.if-rest-eq0.false, c.loop-local.invariant)
      | else-index w ↦ omega (arith, more, ap bit w.if-index.false, w.rest-is, c.loop-local.invariant)
    ] in
    sum
