use Rattle.std.proofs.Common.{◌≡◌, None, ap, sym, ◌∙◌, subst, ℕ, ◌+◌, arith}
use Rattle.mc_model.specs.Paths.{partner_of}
use Rattle.mc_model.specs.Worlds.{far}
use Rattle.mc_laws.proofs.ActedWorlds.{far_inside}
use Rattle.mc_laws.proofs.BothWays.{WalkBoth, both_next, comes_again, ends_ahead, ends_behind, is_off, is_on, lower_met, whole_way}
use Rattle.mc_world.proofs.network.World.is_on_ring.Goals as goal

pub partner-requires : goal.partner-requires
partner-requires c = rw c.far.ensures (far_inside c.args.self.now c.loop-done.ahead c.loop-done.invariant.ahead_inside)

pub returns-in_default : goal.returns-in_default
returns-in_default c =
    let none : partner_of c.args.self.now (far c.loop-done.ahead) ≡ None = ap (partner_of c.args.self.now) (sym c.far.ensures) ∙ (sym c.partner.ensures.partner ∙ c.in_default.is) in
    is_off (ends_ahead c.args.self.now c.args.slot c.loop-done._done c.loop-done.ahead c.loop-done.behind c.loop-done.invariant none)

pub returns-in_default-partner : goal.returns-in_default-partner
returns-in_default-partner c =
    is_off (ends_behind c.args.self.now c.args.slot c.loop-done._done c.loop-done.ahead c.loop-done.behind c.requires.sound c.loop-done.invariant
    (sym c.partner-in-loop-done.ensures.partner ∙ c.in_default-partner.is))

pub returns-then-ahead-slot : goal.returns-then-ahead-slot
returns-then-ahead-slot c =
    let walk = both_next c.args.self.now c.args.slot c.loop-done._done c.loop-done.ahead c.loop-done.behind c.far.result c.in-Some.next c.in-Some-partner.last c.far-behind.result
    c.partner.result c.partner-in-loop-done.result c.requires.sound c.loop-done.invariant c.far.ensures c.partner.ensures.partner c.in-Some.is c.partner-in-loop-done.ensures.partner c.in-Some-partner.is c.far-behind.ensures in
    is_on (comes_again c.args.self.now c.args.slot c.loop-done._done c.far-behind.result
    (subst (λ (n : ℕ). WalkBoth c.args.self.now c.args.slot (c.loop-done._done + 1) n c.far-behind.result) c.if-ahead-slot.true walk))

pub returns-then-min-slot : goal.returns-then-min-slot
returns-then-min-slot c =
    let walk = both_next c.args.self.now c.args.slot c.loop-done._done c.loop-done.ahead c.loop-done.behind c.far.result c.in-Some.next c.in-Some-partner.last c.far-behind.result
    c.partner.result c.partner-in-loop-done.result c.requires.sound c.loop-done.invariant c.far.ensures c.partner.ensures.partner c.in-Some.is c.partner-in-loop-done.ensures.partner c.in-Some-partner.is c.far-behind.ensures in
    is_off (lower_met c.args.self.now c.args.slot (c.loop-done._done + 1) c.in-Some.next c.far-behind.result c.requires.sound walk c.requires.before (rw (← c.min.ensures) c.if-min-slot.true))

pub loop-done-preserved : goal.loop-done-preserved
loop-done-preserved c =
    both_next c.args.self.now c.args.slot c.loop-done._done c.loop-done.ahead c.loop-done.behind c.far.result c.in-Some.next c.in-Some-partner.last c.far-behind.result
    c.partner.result c.partner-in-loop-done.result c.requires.sound c.loop-done.invariant c.far.ensures c.partner.ensures.partner c.in-Some.is c.partner-in-loop-done.ensures.partner c.in-Some-partner.is c.far-behind.ensures

pub returns : goal.returns
returns c =
    let past = c.loop-done-test.false in
    let most = c.loop-done.auto._done-end in
    is_on (whole_way c.args.self.now c.args.slot c.loop-done._done c.loop-done.ahead c.loop-done.behind c.requires.sound c.requires.inside c.loop-done.invariant
    (omega (arith, c.slot_count-done-end.ensures, past, most)))
