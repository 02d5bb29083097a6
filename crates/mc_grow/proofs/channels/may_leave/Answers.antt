use Rattle.std.proofs.Common.{ℕ, ◌≡◌, refl, subst, arith}
use Rattle.mc_grow.proofs.Asking.{LeaveTo, leave_all}
use Rattle.mc_grow.proofs.channels.may_leave.Goals as goal

pub returns : goal.returns
returns c =
    let rise = c.slots_of-first.ensures.rise in
    let end : c.loop-slot.slot ≡ c.slots_of-first.result.1 = omega (arith, rise, c.loop-slot.auto.slot-end, c.loop-slot-test.false) in (
      λ yes. leave_all c.args.world.now c.args.out.now.items c.args.channel c.slots_of-first.result.0 c.slots_of-first.result.1 c.slots_of-first.ensures
          (subst (λ (n : ℕ). LeaveTo c.args.world.now c.args.out.now.items c.slots_of-first.result.0 n) end c.loop-slot.invariant),
      λ all. refl,
    )
