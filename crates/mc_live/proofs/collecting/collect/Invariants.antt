use Rattle.std.proofs.Common.{ℕ}
use Rattle.mc_desk.specs.Desks.{IsSameTaker, IsTakerOf, taken_by}
use Rattle.mc_live.specs.Courses.{IsOn}
use Rattle.mc_live.specs.Requests.{AreOfDesk}
use Rattle.mc_worker.specs.declared.worker.Worker.{Worker}
use Rattle.mc_live.proofs.collecting.collect.Given as goal

abbrev pub invariant-loop : goal.invariant-loop
invariant-loop g l = record {
  taker : IsTakerOf l.desk l.taker;
  same : IsSameTaker l.initial.taker l.taker;
  known : AreOfDesk l.desk (taken_by l.taker);
  on : (a : Worker) (sent took : ℕ) → IsOn a l.initial.worker (taken_by l.initial.taker) sent took l.initial.course → IsOn a l.worker (taken_by l.taker) sent took l.course;
}
