use Rattle.std.proofs.Common.{ℕ, ◌≡◌, subst, arith}
use Rattle.mc_grow.proofs.Cutting.{OutTo, out_end}
use Rattle.mc_grow.proofs.channels.take_out.Goals as goal

pub returns : goal.returns
returns c =
    let rise = c.slots_of-first.ensures.rise in
    let end : c.loop-slot.slot ≡ c.slots_of-first.result.1 = omega (arith, rise, c.loop-slot.auto.slot-end, c.loop-slot-test.false) in
    out_end c.args.world.now c.args.out.now.items c.loop-slot.out.items c.args.channel c.slots_of-first.result.0 c.slots_of-first.result.1 c.slots_of-first.ensures c.requires.flags
    (subst (λ (n : ℕ). OutTo c.args.world.now c.args.out.now.items c.loop-slot.out.items c.args.channel n) end c.loop-slot.invariant)
