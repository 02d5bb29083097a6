use Rattle.std.proofs.Common.{◌≡◌, true, rules, arith}
use Rattle.mc_growth.specs.Outs.{is_used}
use Rattle.mc_grow.proofs.Cutting.{least_in, none_end}
use Rattle.mc_grow.proofs.channels.least_used.Goals as goal

pub returns-then-is_used : goal.returns-then-is_used
returns-then-is_used c =
    let used : is_used c.args.world.now c.loop-slot.slot ≡ true = search rules in
    least_in c.args.world.now c.args.channel c.slots_of-first.result.0 c.slots_of-first.result.1 c.loop-slot.slot c.slots_of-first.ensures (omega (arith, c.loop-slot.auto.slot)) (omega (arith, c.loop-slot-test.true))
    c.loop-slot.invariant used

pub returns : goal.returns
returns c =
    none_end c.args.world.now c.args.channel c.slots_of-first.result.0 c.slots_of-first.result.1 c.slots_of-first.ensures
    (λ s below. c.loop-slot.invariant s (omega (arith, below, c.loop-slot-test.false)))
