use Rattle.std.proofs.Common.{◌≤◌, IsTrue, subst}
use Rattle.mc_desk.proofs.Callers.{still_taker, taker_after, taker_still}
use Rattle.mc_desk.specs.Desks.{taken_by}
use Rattle.mc_flight.proofs.Seating.{still_of, still_same}
use Rattle.mc_live.proofs.Stepping.{begun, none_known, seat_still}
use Rattle.mc_live.proofs.running.run_box.Goals as goal

pub loop-init : goal.loop-init
loop-init g c =
    let run = c.args.run.now in
    let new = c.requires.new in
    record {
      taker = new.taker;
      same = taker_still run.taker;
      seat = new.seat;
      same_seat = seat_still run.seat;
      known = none_known c.args.desk.now run.taker new.none_taken;
      on = begun run.worker run.course (taken_by run.taker) _ _ new.none_taken new.unused.sent new.unused.taken new.begins new.ready new.stamp;
    }

pub returns-then-is_over : goal.returns-then-is_over
returns-then-is_over g c =
    let found = c.collect-found in
    let over : IsTrue c.is_over.result = c.if-is_over.true in
    record {
      taker = taker_after c.args.run.now.taker c.loop.run.taker found.new.taker c.loop.invariant.same found.ensures.same;
      seat = c.loop.invariant.same_seat;
      known = found.ensures.known;
      on = found.ensures.on c.args.run.now.worker _ _ c.loop.invariant.on;
      ended =
          let ends = c.is_over.ensures.ended over in
          let same = c.requires.operators in
          subst (λ n. n ≤ found.new.course.ended) same ends;
      used = c.is_over.ensures.used over;
    }

pub go_on-moved-requires-clause-on : goal.go_on-moved-requires-clause-on
go_on-moved-requires-clause-on g c = (c.args.run.now.worker, taken_by c.collect-found.new.taker, c.collect-found.ensures.on c.args.run.now.worker _ _ c.loop.invariant.on)

pub loop-preserved : goal.loop-preserved
loop-preserved g c =
    let found = c.collect-found in
    let moved = c.go_on-moved in
    record {
      taker = still_taker c.args.desk.now c.loop.run.taker found.new.taker found.ensures.same c.loop.invariant.taker;
      same = taker_after c.args.run.now.taker c.loop.run.taker found.new.taker c.loop.invariant.same found.ensures.same;
      seat = still_of c.args.flight.now c.loop.run.seat moved.new.seat moved.ensures.same c.loop.invariant.seat;
      same_seat = still_same c.args.run.now.seat c.loop.run.seat moved.new.seat c.loop.invariant.same_seat moved.ensures.same;
      known = found.ensures.known;
      on = moved.ensures.on c.args.run.now.worker (taken_by found.new.taker) (found.ensures.on c.args.run.now.worker _ _ c.loop.invariant.on);
    }
