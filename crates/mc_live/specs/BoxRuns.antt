-- What a box that runs freely does on its thread.
use Rattle.std.specs.Prelude.{◌≡◌, ◌≤◌, List, []}
use Rattle.std.specs.List.{AllZip}
use Rattle.mc_desk.specs.Desks.{IsSameTaker, IsTakerOf, operator_count, taken_by}
use Rattle.mc_desk.specs.declared.desk.Desk.{Desk}
use Rattle.mc_flight.specs.Seats.{IsSameSeat, IsSeatOf, IsUnused, sent_count, taken_count}
use Rattle.mc_flight.specs.declared.flight.Flight.{Flight}
use Rattle.mc_live.specs.Beside.{AllThree}
use Rattle.mc_live.specs.Courses.{HasBegun, IsOn}
use Rattle.mc_live.specs.Requests.{AreOfDesk}
use Rattle.mc_live.specs.declared.box_run.BoxRun.{BoxRun}
use Rattle.mc_live.specs.declared.course.Pace.TheVariants.{Runs}
use Rattle.mc_worker.specs.Ready.{IsReady}

-- a box that is about to run: it has the taker of its desk and a seat at the counter, nobody has asked it, it has no
-- stamp yet, and nothing was counted
pub record IsNewRun (desk : Desk) (flight : Flight) (run : BoxRun) : Type 0 where
  pub ready : IsReady run.worker
  pub stamp : run.worker.stamp ≡ 0
  pub begins : HasBegun run.course
  pub taker : IsTakerOf desk run.taker
  pub none_taken : taken_by run.taker ≡ []
  pub seat : IsSeatOf flight run.seat
  pub unused : IsUnused run.seat

-- it has run until each operator of its desk had ended, and had used its commands up or made no further round; what it
-- sent and took was counted with its seat
pub record HasRunFreely (desk : Desk) (old new : BoxRun) : Type 0 where
  pub taker : IsSameTaker old.taker new.taker
  pub seat : IsSameSeat old.seat new.seat
  pub known : AreOfDesk desk (taken_by new.taker)
  pub on : IsOn old.worker new.worker (taken_by new.taker) (sent_count new.seat) (taken_count new.seat) new.course
  pub ended : operator_count desk ≤ new.course.ended
  pub used : new.course.pace ≡ Runs → new.worker.stimuli.items ≡ []

-- each box is about to run at the desk of its place
abbrev pub AreNewRuns : Flight → List Desk → List BoxRun → Type 0
AreNewRuns flight desks runs = AllZip (λ (desk : Desk) (run : BoxRun). IsNewRun desk flight run) desks runs

-- each has run at the desk of its place
abbrev pub HaveRunFreely : List Desk → List BoxRun → List BoxRun → Type 0
HaveRunFreely desks old new = AllThree HasRunFreely desks old new
