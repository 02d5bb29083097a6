use Rattle.std.proofs.Common.{◌≢◌, ◌<◌, ◌∙◌, ap, length, below_more, arith}
use Rattle.std.proofs.Math.Seq.{map-set_same}
use Rattle.std.proofs.lemmas.Grind.{common_steps}
use Rattle.mc_lane.specs.Queue.{Queue}
use Rattle.mc_port.specs.declared.stamped.Stamped.{Stamped}
use Rattle.mc_worker.proofs.EndSteps.{at_other, at_set}
use Rattle.mc_worker.proofs.Waiting.{spare_kept}
use Rattle.mc_worker.proofs.outboxes.reserve_each.Goals as goal

pub returns-in_err-reserve-clause-items : goal.returns-in_err-reserve-clause-items
returns-in_err-reserve-clause-items c =
    map-set_same (λ (q : Queue Stamped). q.items) c.loop-end.lanes.items c.loop-end.end c.reserve.new.self c.index_mut.result.now (c.reserve.ensures.items ∙ ap (λ (q : Queue Stamped). q.items) c.index_mut.ensures.value)
    ∙ c.loop-end.invariant.items

pub loop-end-preserved : goal.loop-end-preserved
loop-end-preserved c = record {
  items = map-set_same (λ (q : Queue Stamped). q.items) c.loop-end.lanes.items c.loop-end.end c.reserve.new.self c.index_mut.result.now (c.reserve.ensures.items ∙ ap (λ (q : Queue Stamped). q.items) c.index_mut.ensures.value)
      ∙ c.loop-end.invariant.items;
  len = grind (arith, common_steps);
  kept = λ e.
      let here = spare_kept c.loop-end.lanes.items c.loop-end.end 0 c.index_mut.result.now c.reserve.new.self (omega arith) c.index_mut.ensures.value (let kept = c.reserve.ensures.kept in omega (arith, kept)) e in
      let before = c.loop-end.invariant.kept e in
      omega (arith, here, before);
  room = below_more _ _
      (λ s h. let off : s ≢ c.loop-end.end = omega arith in rw (at_other (λ (q : Queue Stamped). q.spare) c.loop-end.lanes.items c.loop-end.end s c.reserve.new.self 0 off) (c.loop-end.invariant.room s h))
      (let inside : c.loop-end.end < length c.loop-end.lanes.items = omega arith in rw (at_set (λ (q : Queue Stamped). q.spare) c.loop-end.lanes.items c.loop-end.end c.reserve.new.self 0 inside) c.in_ok-reserve.ensures.room);
}

pub returns-in_err-reserve-clause-kept : goal.returns-in_err-reserve-clause-kept
returns-in_err-reserve-clause-kept c e =
    let here = spare_kept c.loop-end.lanes.items c.loop-end.end 0 c.index_mut.result.now c.reserve.new.self (omega arith) c.index_mut.ensures.value (let kept = c.reserve.ensures.kept in omega (arith, kept)) e in
    let before = c.loop-end.invariant.kept e in
    omega (arith, here, before)
