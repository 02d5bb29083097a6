use Rattle.std.proofs.Common.{◌≡◌, true, false, Some, None, refl, subst, arith}
use Rattle.mc_model.specs.Rings.{IsLeastOnRing}
use Rattle.mc_model.specs.Worlds.{WorldState}
use Rattle.mc_laws.proofs.BothWays.{has_by, none_yet}
use Rattle.mc_world.proofs.network.World.ring.Goals as goal

-- it is remembered that there is none
pub returns-then-self-clause-least : goal.returns-then-self-clause-least
returns-then-self-clause-least c = subst (λ (w : WorldState). IsLeastOnRing w None) c.self.view_is (c.self.invariant.ringless c.if-self.true)

pub returns-then-self-clause-has : goal.returns-then-self-clause-has
returns-then-self-clause-has c =
    has_by c.args.self.now None c.keeps.ensures.sound (subst (λ (w : WorldState). IsLeastOnRing w None) c.self.view_is (c.self.invariant.ringless c.if-self.true))

pub returns-then-is_on_ring-clause-least : goal.returns-then-is_on_ring-clause-least
returns-then-is_on_ring-clause-least c = record {
  inside = omega (arith, c.loop-slot-test.true, c.slot_count-slot-end.ensures);
  on = c.if-is_on_ring.ensures.0 refl;
  least = c.loop-slot.invariant;
}

pub returns-then-is_on_ring-clause-has : goal.returns-then-is_on_ring-clause-has
returns-then-is_on_ring-clause-has c =
    has_by c.args.self.now (Some c.loop-slot.slot) c.keeps.ensures.sound (record {
      inside = omega (arith, c.loop-slot-test.true, c.slot_count-slot-end.ensures);
      on = c.if-is_on_ring.ensures.0 refl;
      least = c.loop-slot.invariant;
    })

pub loop-slot-preserved : goal.loop-slot-preserved
loop-slot-preserved c = none_yet c.args.self.now c.loop-slot.slot c.loop-slot.invariant (λ on. let clash : false ≡ true = c.if-is_on_ring.ensures.1 on in absurd (cc))

pub returns-clause-least : goal.returns-clause-least
returns-clause-least c t below = c.loop-slot.invariant t (omega (arith, below, c.loop-slot-test.false, c.slot_count-slot-end.ensures))

pub returns-clause-has : goal.returns-clause-has
returns-clause-has c =
    has_by c.args.self.now None c.keeps.ensures.sound (λ t below. c.loop-slot.invariant t (omega (arith, below, c.loop-slot-test.false, c.slot_count-slot-end.ensures)))
