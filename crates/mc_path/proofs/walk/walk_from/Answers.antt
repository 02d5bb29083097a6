use Rattle.std.proofs.Common.{ap, sym, ◌∙◌, arith, ℕ}
use Rattle.mc_laws.proofs.ActedWorlds.{far_inside}
use Rattle.mc_path.proofs.Walking.{begins, breaks, ends, goes_on, half_of, stops}
use Rattle.mc_path.proofs.walk.walk_from.Goals as goal

pub goal_in-requires : goal.goal_in-requires
goal_in-requires g c = rw c.far-over.ensures (far_inside (g.N.Network.world c.args.network.now) c.loop-done.at c.loop-done.invariant.inside)

pub loop-done-init : goal.loop-done-init
loop-done-init g c = begins (g.N.Network.world c.args.network.now) c.args.from c.requires

pub returns-in-End-clause-walk : goal.returns-in-End-clause-walk
returns-in-End-clause-walk g c =
    let all = half_of (g.N.Network.world c.args.network.now) c.slot_count.result c.slot_count.ensures in
    ends (g.N.Network.world c.args.network.now) c.args.from c.loop-done.done c.loop-done.at c.far-over.result c.in-End.field-0 c.loop-done.invariant (omega (arith, all, c.loop-done-test.true)) c.far-over.ensures
    (sym c.goal_in.ensures ∙ c.in-End.is)

pub returns-in-End-clause-inside : goal.returns-in-End-clause-inside
returns-in-End-clause-inside g c = rw c.far-over.ensures (far_inside (g.N.Network.world c.args.network.now) c.loop-done.at c.loop-done.invariant.inside)

pub place-who-requires : goal.place-who-requires
place-who-requires g c = rw c.far-over.ensures (far_inside (g.N.Network.world c.args.network.now) c.loop-done.at c.loop-done.invariant.inside)

pub returns-in_err-at-in-Link-clause-walk : goal.returns-in_err-at-in-Link-clause-walk
returns-in_err-at-in-Link-clause-walk g c =
    let all = half_of (g.N.Network.world c.args.network.now) c.slot_count.result c.slot_count.ensures in
    c.from_residual.ensures
    ∙ breaks (g.N.Network.world c.args.network.now) c.args.from c.loop-done.done c.loop-done.at c.far-over.result c.place-who.result.0 c.in-Link.partner c.loop-done.invariant (omega (arith, all, c.loop-done-test.true))
    (record {
      far_is = c.far-over.ensures;
      goal_is = sym c.goal_in.ensures ∙ c.in-Link.is;
      who_is = ap (λ (place : ℕ × ℕ). place.0) c.place-who.ensures;
      next_is = sym c.number.ensures ∙ c.in_err-at-in-Link.was;
    })

pub loop-done-preserved : goal.loop-done-preserved
loop-done-preserved g c =
    goes_on (g.N.Network.world c.args.network.now) c.args.from c.loop-done.done c.loop-done.at c.far-over.result c.place-who.result.0 c.in-Link.partner c.in_ok-at-in-Link.at c.loop-done.invariant
    (record {
      far_is = c.far-over.ensures;
      goal_is = sym c.goal_in.ensures ∙ c.in-Link.is;
      who_is = ap (λ (place : ℕ × ℕ). place.0) c.place-who.ensures;
      next_is = sym c.number.ensures ∙ c.in_ok-at-in-Link.was;
    })

pub returns-clause-walk : goal.returns-clause-walk
returns-clause-walk g c =
    let all = half_of (g.N.Network.world c.args.network.now) c.slot_count.result c.slot_count.ensures in
    let passed = c.loop-done-test.false in
    let most = c.loop-done.auto.done-end in
    stops (g.N.Network.world c.args.network.now) c.args.from c.loop-done.done c.loop-done.at c.loop-done.invariant (omega (arith, all, passed, most))
