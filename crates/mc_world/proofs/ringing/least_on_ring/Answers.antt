use Rattle.std.proofs.Common.{◌≡◌, ◌<◌, true, false, None, Some, sym, ◌∙◌, refl, arith}
use Rattle.mc_model.specs.Worlds.{slot_count}
use Rattle.mc_laws.proofs.BothWays.{has_by, none_yet}
use Rattle.mc_world.proofs.PartnerTables.{alone_off, is_first, not_yet}
use Rattle.mc_world.proofs.ringing.least_on_ring.Goals as goal
use Rattle.mc_world.proofs.ringing.least_on_ring.Goals.{in-Some+else-is_on_ring, in_default}

pub returns-then-is_on_ring-clause-least : goal.returns-then-is_on_ring-clause-least
returns-then-is_on_ring-clause-least c world sound are =
    let here : c.loop-place.place < slot_count world = omega (arith, are.long, c.loop-place-test.true, c.loop-place.auto.place-end) in
    is_first world c.loop-place.place c.in-Some.slot here (c.loop-place.invariant world sound are) (sym c.in-Some.is ∙ c.linked.ensures world sound are here)
    (λ inside before. (c.if-is_on_ring.ensures world sound are inside before).0 refl)

pub returns-then-is_on_ring-clause-has : goal.returns-then-is_on_ring-clause-has
returns-then-is_on_ring-clause-has c world sound are =
    let here : c.loop-place.place < slot_count world = omega (arith, are.long, c.loop-place-test.true, c.loop-place.auto.place-end) in
    has_by world (Some c.in-Some.slot) sound
    (is_first world c.loop-place.place c.in-Some.slot here (c.loop-place.invariant world sound are) (sym c.in-Some.is ∙ c.linked.ensures world sound are here)
    (λ inside before. (c.if-is_on_ring.ensures world sound are inside before).0 refl))

pub loop-place-preserved : goal.loop-place-preserved
loop-place-preserved c world sound are =
    let here : c.loop-place.place < slot_count world = omega (arith, are.long, c.loop-place-test.true, c.loop-place.auto.place-end) in
    let found = c.linked.ensures world sound are here in
    let before = c.loop-place.invariant world sound are in
    elim c.match-linked.branch [
      | in-Some+else-is_on_ring w ↦ not_yet world c.loop-place.place w.in-Some.slot here before (sym w.in-Some.is ∙ found) (λ inside none on.
          let clash : false ≡ true = (w.if-is_on_ring.ensures world sound are inside none).1 on in absurd (cc))
      | in_default w ↦ none_yet world c.loop-place.place before (alone_off world c.loop-place.place sound here (sym w.in_default.is ∙ found))
    ]

pub returns-clause-least : goal.returns-clause-least
returns-clause-least c world sound are t below = c.loop-place.invariant world sound are t (omega (arith, below, are.long, c.loop-place-test.false))

pub returns-clause-has : goal.returns-clause-has
returns-clause-has c world sound are =
    has_by world None sound (λ t below. c.loop-place.invariant world sound are t (omega (arith, below, are.long, c.loop-place-test.false)))
