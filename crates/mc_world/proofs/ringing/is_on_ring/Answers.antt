use Rattle.std.proofs.Common.{◌≡◌, None, sym, ◌∙◌, subst, ℕ, ◌+◌, arith}
use Rattle.mc_model.specs.Paths.{partner_of}
use Rattle.mc_model.specs.Worlds.{far}
use Rattle.mc_laws.proofs.ActedWorlds.{far_inside}
use Rattle.mc_laws.proofs.BothWays.{WalkBoth, comes_again, ends_ahead, ends_behind, is_off, is_on, lower_met, whole_way}
use Rattle.mc_world.proofs.PartnerTables.{both_by}
use Rattle.mc_world.proofs.ringing.is_on_ring.Goals as goal

pub returns-in_default : goal.returns-in_default
returns-in_default c world sound are inside before =
    let walk = c.loop-done.invariant world sound are inside in
    let none : partner_of world (far c.loop-done.ahead) ≡ None =
    sym (are.each (far c.loop-done.ahead) (far_inside world c.loop-done.ahead walk.ahead_inside)) ∙ (rw (← c.far.ensures) (sym c.partner.ensures ∙ c.in_default.is)) in
    is_off (ends_ahead world c.args.slot c.loop-done._done c.loop-done.ahead c.loop-done.behind walk none)

pub returns-in_default-partner : goal.returns-in_default-partner
returns-in_default-partner c world sound are inside before =
    let walk = c.loop-done.invariant world sound are inside in
    is_off (ends_behind world c.args.slot c.loop-done._done c.loop-done.ahead c.loop-done.behind sound walk
    (sym (are.each c.loop-done.behind walk.behind_inside) ∙ (sym c.partner-in-loop-done.ensures ∙ c.in_default-partner.is)))

pub returns-then-ahead-slot : goal.returns-then-ahead-slot
returns-then-ahead-slot c world sound are inside before =
    let walk = both_by world c.args.partners.now c.args.slot c.loop-done._done c.loop-done.ahead c.loop-done.behind c.far.result c.in-Some.next c.in-Some-partner.last c.far-behind.result
    c.partner.result c.partner-in-loop-done.result sound are (c.loop-done.invariant world sound are inside) c.far.ensures c.partner.ensures c.in-Some.is c.partner-in-loop-done.ensures c.in-Some-partner.is c.far-behind.ensures in
    is_on (comes_again world c.args.slot c.loop-done._done c.far-behind.result
    (subst (λ (n : ℕ). WalkBoth world c.args.slot (c.loop-done._done + 1) n c.far-behind.result) c.if-ahead-slot.true walk))

pub returns-then-min-slot : goal.returns-then-min-slot
returns-then-min-slot c world sound are inside before =
    let walk = both_by world c.args.partners.now c.args.slot c.loop-done._done c.loop-done.ahead c.loop-done.behind c.far.result c.in-Some.next c.in-Some-partner.last c.far-behind.result
    c.partner.result c.partner-in-loop-done.result sound are (c.loop-done.invariant world sound are inside) c.far.ensures c.partner.ensures c.in-Some.is c.partner-in-loop-done.ensures c.in-Some-partner.is c.far-behind.ensures in
    is_off (lower_met world c.args.slot (c.loop-done._done + 1) c.in-Some.next c.far-behind.result sound walk before (rw (← c.min.ensures) c.if-min-slot.true))

pub loop-done-preserved : goal.loop-done-preserved
loop-done-preserved c world sound are inside =
    both_by world c.args.partners.now c.args.slot c.loop-done._done c.loop-done.ahead c.loop-done.behind c.far.result c.in-Some.next c.in-Some-partner.last c.far-behind.result
    c.partner.result c.partner-in-loop-done.result sound are (c.loop-done.invariant world sound are inside) c.far.ensures c.partner.ensures c.in-Some.is c.partner-in-loop-done.ensures c.in-Some-partner.is c.far-behind.ensures

pub returns : goal.returns
returns c world sound are inside before =
    let past = c.loop-done-test.false in
    let most = c.loop-done.auto._done-end in
    is_on (whole_way world c.args.slot c.loop-done._done c.loop-done.ahead c.loop-done.behind sound inside (c.loop-done.invariant world sound are inside)
    (omega (arith, are.long, past, most)))
