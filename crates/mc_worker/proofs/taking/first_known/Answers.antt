use Rattle.std.proofs.Common.{◌∙◌, inl, inr, ap, sym, refl, [], below_more, arith}
use Rattle.std.proofs.Math.Seq.{map-set_same}
use Rattle.std.proofs.lemmas.Grind.{common_steps}
use Rattle.mc_port.specs.Ends.{in_ring}
use Rattle.mc_worker.specs.Ends.{ring_end}
use Rattle.mc_worker.proofs.EndSteps.{idle_here, in_look, next_here, passed_there, ring_looked}
use Rattle.mc_worker.proofs.Joins.{in_joined, in_still}
use Rattle.mc_worker.proofs.taking.first_known.Goals as goal

pub loop-end-init : goal.loop-end-init
loop-end-init c = record { account = λ e. in_still _; rings = refl; ports = refl; passed = λ e h. inl (h, refl) }

pub returns-in-Some-clause-account : goal.returns-in-Some-clause-account
returns-in-Some-clause-account c e =
    in_joined _ _ _ [] [] (c.loop-end.invariant.account e)
    (in_look c.loop-end.ins.items c.loop-end.end c.index_mut.result.now c.peek.new.self (omega arith) c.index_mut.ensures.value (ring_looked c.index_mut.result.now c.peek.new.self c.peek.ensures.received c.peek.ensures.known c.peek.ensures.more_looks) e)

pub returns-in-Some-clause-rings : goal.returns-in-Some-clause-rings
returns-in-Some-clause-rings c =
    map-set_same in_ring c.loop-end.ins.items c.loop-end.end c.peek.new.self c.index_mut.result.now (c.peek.ensures.ring ∙ ap in_ring c.index_mut.ensures.value) ∙ c.loop-end.invariant.rings

pub returns-in-Some-clause-found : goal.returns-in-Some-clause-found
returns-in-Some-clause-found c = next_here c.loop-end.ins.items c.loop-end.end c.peek.new.self c.in-Some.item (omega arith) (sym c.peek.ensures.front ∙ c.in-Some.is)

pub returns-in-Some-clause-passed : goal.returns-in-Some-clause-passed
returns-in-Some-clause-passed c e h =
    passed_there c.args.from (ring_end c.args.ins.now.items e) c.loop-end.ins.items c.loop-end.end e c.peek.new.self (λ same. absurd (omega arith)) (c.loop-end.invariant.passed e h)

pub loop-end-preserved : goal.loop-end-preserved
loop-end-preserved c = record {
  account = λ e. in_joined _ _ _ [] [] (c.loop-end.invariant.account e)
      (in_look c.loop-end.ins.items c.loop-end.end c.index_mut.result.now c.peek.new.self (omega arith) c.index_mut.ensures.value (ring_looked c.index_mut.result.now c.peek.new.self c.peek.ensures.received c.peek.ensures.known c.peek.ensures.more_looks) e);
  rings = map-set_same in_ring c.loop-end.ins.items c.loop-end.end c.peek.new.self c.index_mut.result.now (c.peek.ensures.ring ∙ ap in_ring c.index_mut.ensures.value) ∙ c.loop-end.invariant.rings;
  ports = grind (arith, common_steps);
  passed = below_more _ _
      (λ e h. passed_there c.args.from (ring_end c.args.ins.now.items e) c.loop-end.ins.items c.loop-end.end e c.peek.new.self (λ same. absurd (omega arith)) (c.loop-end.invariant.passed e h))
      (inr (idle_here (ring_end c.args.ins.now.items c.loop-end.end) c.loop-end.ins.items c.loop-end.end c.index_mut.result.now c.peek.new.self (omega arith) c.index_mut.ensures.value (c.loop-end.invariant.account c.loop-end.end).looks
      (record { inbox = refl; known = c.in_default.ensures.none.now; looked = c.in_default.ensures.none.looked })));
}
