use Rattle.std.proofs.Common.{◌≡◌, ◌+◌, ◌∙◌, ℕ, List, length, length-set, ap, sym, subst, arith}
use Rattle.std.specs.declared.alloc.Global.{Global}
use Rattle.std.specs.declared.vec.Vec.{Vec}
use Rattle.mc_part.specs.Divisions.{is_crossing}
use Rattle.mc_divided.specs.Whole.{AreRanks, no_base}
use Rattle.mc_divided.proofs.PlacesCounted.{AreNext, counts_fit, crossing_counted, end_inside, other_fits, within_counted}
use Rattle.mc_divided.proofs.whole.crossing_counts.Goals as goal
use Rattle.mc_divided.proofs.whole.crossing_counts.Goals.{then-from-to, else-from-to}

pub count_one-from-requires-clause-few : goal.count_one-from-requires-clause-few
count_one-from-requires-clause-few c =
    let inside = end_inside c.args.assigned.now c.args.channels.now c.args.count c.loop-number.number 0 c.requires.parts
    c.requires.joins (omega arith) in
    counts_fit (is_crossing c.args.assigned.now) no_base c.args.channels.now c.loop-number.number _
    c.loop-number.counts.items c.loop-number.invariant.ranks
    (omega (arith, inside, c.parts_at-from.ensures.from, c.loop-number.invariant.count)) (omega arith) c.requires.few

pub count_one-to-requires-clause-few : goal.count_one-to-requires-clause-few
count_one-to-requires-clause-few c =
    let inside = end_inside c.args.assigned.now c.args.channels.now c.args.count c.loop-number.number 1 c.requires.parts
    c.requires.joins (omega arith) in
    other_fits (is_crossing c.args.assigned.now) no_base c.args.channels.now c.loop-number.number _ _
    c.loop-number.counts.items c.count_one-from.new.counts.items c.if-from-to.true c.count_one-from.ensures.counted
    c.loop-number.invariant.ranks
    (omega (arith, inside, c.parts_at-from.ensures.to, c.loop-number.invariant.count)) (omega arith) c.requires.few

pub loop-number-preserved : goal.loop-number-preserved
loop-number-preserved c =
    let next : AreNext c.args.assigned.now c.args.channels.now c.loop-number.number c.parts_at-from.result.0
    c.parts_at-from.result.1 = record {
      below = omega arith;
      from_is = c.parts_at-from.ensures.from;
      to_is = c.parts_at-from.ensures.to;
    } in
    elim c.if-from-to.branch [
      | then-from-to w ↦
          let after : c.if-from-to.counts.items ≡ w.count_one-to.new.counts.items =
          ap (λ (v : Vec ℕ Global). v.items) w.counts-is in
          let one = end_inside c.args.assigned.now c.args.channels.now c.args.count c.loop-number.number 0
          c.requires.parts c.requires.joins (omega arith) in
          let two = end_inside c.args.assigned.now c.args.channels.now c.args.count c.loop-number.number 1
          c.requires.parts c.requires.joins (omega arith) in
          record {
            count = ap (λ (l : List ℕ). length l) (after ∙ w.count_one-to.ensures.counted)
                ∙ (length-set w.count_one-from.new.counts.items c.parts_at-from.result.1 _
                ∙ (ap (λ (l : List ℕ). length l) w.count_one-from.ensures.counted
                ∙ (length-set c.loop-number.counts.items c.parts_at-from.result.0 _ ∙ c.loop-number.invariant.count)));
            ranks = crossing_counted c.args.assigned.now c.args.channels.now c.loop-number.number _ _
                c.loop-number.counts.items w.count_one-from.new.counts.items c.if-from-to.counts.items next
                w.if-from-to.true
                (omega (arith, one, c.parts_at-from.ensures.from, c.loop-number.invariant.count))
                (omega (arith, two, c.parts_at-from.ensures.to, c.loop-number.invariant.count))
                w.count_one-from.ensures.counted (after ∙ w.count_one-to.ensures.counted)
                c.loop-number.invariant.ranks;
          }
      | else-from-to w ↦
          let after : c.if-from-to.counts.items ≡ c.loop-number.counts.items =
          ap (λ (v : Vec ℕ Global). v.items) w.counts-is in
          record {
            count = ap (λ (l : List ℕ). length l) after ∙ c.loop-number.invariant.count;
            ranks = subst
                (λ (l : List ℕ). AreRanks (is_crossing c.args.assigned.now) no_base c.args.channels.now
                (c.loop-number.number + 1) l) (sym after)
                (within_counted c.args.assigned.now c.args.channels.now c.loop-number.number _ _
                c.loop-number.counts.items next w.if-from-to.false c.loop-number.invariant.ranks);
          }
    ]
