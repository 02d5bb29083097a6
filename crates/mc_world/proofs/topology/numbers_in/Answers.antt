use Rattle.std.proofs.Common.{◌≡◌, ◌<◌, ◌+◌, ◌++◌, [], ◌∷◌, ap, length, take, refl, arith}
use Rattle.mc_signal.specs.declared.Descriptor.{Descriptor}
use Rattle.mc_world.specs.Lanes.{origins}
use Rattle.mc_world.proofs.SlotNumbers.{origins_more}
use Rattle.mc_world.proofs.topology.numbers_in.Goals as goal

pub loop-local-preserved : goal.loop-local-preserved
loop-local-preserved c =
    let inside : c.loop-local.local < length c.args.home.now.slots = omega (arith, c.loop-local-test.true, ap length c.slots-local-end.ensures.slots) in
    let more : take (c.loop-local.local + 1) (origins c.args.home.now) ≡ take c.loop-local.local (origins c.args.home.now) ++ c.own.result.origin ∷ [] =
    origins_more c.args.home.now c.loop-local.local c.own.result.origin c.keeps.ensures.wired.whole inside (ap (λ (d : Descriptor). d.origin) c.own.ensures) in
    rw (c.in_ok-push.ensures.items, more, c.loop-local.invariant) refl
