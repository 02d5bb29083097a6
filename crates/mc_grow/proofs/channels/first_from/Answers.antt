use Rattle.std.proofs.Common.{ℕ, ◌+◌, ◌-◌, ◌/◌, ap, arith}
use Rattle.mc_grow.proofs.Cutting.{between_above, between_below}
use Rattle.mc_grow.proofs.channels.first_from.Goals as goal

pub loop-low-preserved-then-channel : goal.loop-low-preserved-then-channel
loop-low-preserved-then-channel c =
    let channel = ap (λ (p : ℕ × ℕ). p.0) c.channel.ensures.channel in
    between_above c.args.world.now c.args.channel c.loop-low.low c.loop-low.high (c.loop-low.low + (c.loop-low.high - c.loop-low.low) / 2) c.loop-low.invariant (omega arith)
    (omega (arith, c.loop-low-test.true)) (omega (arith, channel, c.if-channel.true))

pub loop-low-preserved : goal.loop-low-preserved
loop-low-preserved c =
    let channel = ap (λ (p : ℕ × ℕ). p.0) c.channel.ensures.channel in
    between_below c.args.world.now c.args.channel c.loop-low.low c.loop-low.high (c.loop-low.low + (c.loop-low.high - c.loop-low.low) / 2) c.loop-low.invariant (omega arith)
    (omega (arith, c.loop-low-test.true)) (omega (arith, channel, c.if-channel.false))
