use Rattle.std.proofs.Common.{length, arith}
use Rattle.mc_part.specs.Divisions.{is_crossing, is_inner}
use Rattle.mc_divided.specs.Whole.{inner_base, no_base}
use Rattle.mc_divided.proofs.PlacesCounted.{AreNext, counts_fit, crossing_counted, end_inside, apart_counted, filter_few, other_fits}
use Rattle.mc_divided.proofs.whole.next_places.Goals as goal

pub count_one-place-requires-clause-few : goal.count_one-place-requires-clause-few
count_one-place-requires-clause-few c =
    let inside = end_inside c.args.assigned.now c.args.channels.now (length c.args.crossed.now.items) c.args.number 0
    c.requires.parts c.requires.joins c.requires.there in
    counts_fit (is_inner c.args.assigned.now) (inner_base c.args.assigned.now c.args.channels.now) c.args.channels.now
    c.args.number _ c.args.inner.now.items c.requires.counted.inner_are
    (omega (arith, inside, c.parts_at-from.ensures.from, c.requires.same))
    (filter_few (is_crossing c.args.assigned.now _) c.args.channels.now) c.requires.few

pub count_one-start-requires-clause-few : goal.count_one-start-requires-clause-few
count_one-start-requires-clause-few c =
    let inside = end_inside c.args.assigned.now c.args.channels.now (length c.args.crossed.now.items) c.args.number 0
    c.requires.parts c.requires.joins c.requires.there in
    counts_fit (is_crossing c.args.assigned.now) no_base c.args.channels.now c.args.number _ c.args.crossed.now.items
    c.requires.counted.crossed_are (omega (arith, inside, c.parts_at-from.ensures.from)) (omega arith) c.requires.few

pub count_one-end-requires-clause-few : goal.count_one-end-requires-clause-few
count_one-end-requires-clause-few c =
    let inside = end_inside c.args.assigned.now c.args.channels.now (length c.args.crossed.now.items) c.args.number 1
    c.requires.parts c.requires.joins c.requires.there in
    other_fits (is_crossing c.args.assigned.now) no_base c.args.channels.now c.args.number _ _ c.args.crossed.now.items
    c.count_one-start.new.counts.items c.if-from-to.false c.count_one-start.ensures.counted
    c.requires.counted.crossed_are (omega (arith, inside, c.parts_at-from.ensures.to)) (omega arith) c.requires.few

pub returns-clause-counted : goal.returns-clause-counted
returns-clause-counted c =
    let next : AreNext c.args.assigned.now c.args.channels.now c.args.number c.parts_at-from.result.0
    c.parts_at-from.result.1 = record {
      below = c.requires.there;
      from_is = c.parts_at-from.ensures.from;
      to_is = c.parts_at-from.ensures.to;
    } in
    let one = end_inside c.args.assigned.now c.args.channels.now (length c.args.crossed.now.items) c.args.number 0
    c.requires.parts c.requires.joins c.requires.there in
    let two = end_inside c.args.assigned.now c.args.channels.now (length c.args.crossed.now.items) c.args.number 1
    c.requires.parts c.requires.joins c.requires.there in
    record {
      crossed_are = crossing_counted c.args.assigned.now c.args.channels.now c.args.number _ _ c.args.crossed.now.items
          c.count_one-start.new.counts.items c.count_one-end.new.counts.items next c.if-from-to.false
          (omega (arith, one, c.parts_at-from.ensures.from)) (omega (arith, two, c.parts_at-from.ensures.to))
          c.count_one-start.ensures.counted c.count_one-end.ensures.counted c.requires.counted.crossed_are;
      inner_are = apart_counted c.args.assigned.now c.args.channels.now c.args.number _ _ c.args.inner.now.items next
          c.if-from-to.false c.requires.counted.inner_are;
    }
