use Rattle.mc_desk.specs.Desks.{IsSameTaker, IsTakerOf, taken_by}
use Rattle.mc_flight.specs.Seats.{IsSameSeat, IsSeatOf, sent_count, taken_count}
use Rattle.mc_live.specs.Courses.{IsOn}
use Rattle.mc_live.specs.Requests.{AreOfDesk}
use Rattle.mc_live.proofs.running.run_box.Given as goal

abbrev pub invariant-loop : goal.invariant-loop
invariant-loop g l = record {
  taker : IsTakerOf l.desk l.run.taker;
  same : IsSameTaker l.initial.run.taker l.run.taker;
  seat : IsSeatOf l.flight l.run.seat;
  same_seat : IsSameSeat l.initial.run.seat l.run.seat;
  known : AreOfDesk l.desk (taken_by l.run.taker);
  on : IsOn l.initial.run.worker l.run.worker (taken_by l.run.taker) (sent_count l.run.seat) (taken_count l.run.seat) l.run.course;
}
