-- All that takes part in a phase, before the boxes run and after it.
use Rattle.std.specs.Prelude.{◌≡◌, ◌++◌, ℕ, List, [], length, map, slice_get, sum_by, Some}
use Rattle.std.specs.List.{AllByRecursion}
use Rattle.mc_desk.specs.declared.desk.Desk.{Desk}
use Rattle.mc_desk.specs.declared.desk.Operator.{Operator}
use Rattle.mc_desk.specs.declared.desk.Taker.{Taker}
use Rattle.mc_desk.specs.declared.request.Request.{Request}
use Rattle.mc_desks.specs.Finished.{AreRests, CanFinish}
use Rattle.mc_desks.specs.Laid.{HaveOperators, HaveRoom}
use Rattle.mc_flight.specs.Seats.{AreAllSeats, IsSeatOf, IsUnused, sent_count, taken_count}
use Rattle.mc_flight.specs.declared.flight.Flight.{Flight}
use Rattle.mc_flight.specs.declared.flight.FlightSeat.{FlightSeat}
use Rattle.mc_lane.specs.Queue.{Queue}
use Rattle.mc_live.specs.Askers.{IsNewAsker}
use Rattle.mc_live.specs.BoxRuns.{AreNewRuns}
use Rattle.mc_live.specs.Courses.{HasBegun}
use Rattle.mc_live.specs.Phases.{AreSetFree, IsSetFree, member_of}
use Rattle.mc_live.specs.declared.asker.Asker.{Asker}
use Rattle.mc_live.specs.declared.box_run.BoxRun.{BoxRun}
use Rattle.mc_live.specs.declared.limit.TheConstants.{ROOM}
use Rattle.mc_phase.specs.Asked.{request_lists}
use Rattle.mc_phase.specs.declared.finishing.Finished.{Finished}
use Rattle.mc_phase.specs.declared.preparing.PhaseParts.{PhaseParts}
use Rattle.mc_team.specs.declared.member.Member.{Member}
use Rattle.mc_worker.specs.Ready.{IsReady}

-- ---- before

-- a box may be set free: it is ready, and no command is left to it
pub record CanBeFree (member : Member) : Type 0 where
  pub ready : IsReady member.worker
  pub none : member.worker.stimuli.items ≡ []

-- a seat of this counter with which nothing was counted yet
pub record IsNewSeat (flight : Flight) (seat : FlightSeat) : Type 0 where
  pub of : IsSeatOf flight seat
  pub unused : IsUnused seat

-- a box is set free: it is as its member, with no stamp yet and an empty log, and nobody has asked it
pub record IsFreed (member : Member) (taker : Taker) (seat : FlightSeat) (run : BoxRun) : Type 0 where
  pub set : IsSetFree member run
  pub ready : IsReady run.worker
  pub stamp : run.worker.stamp ≡ 0
  pub begins : HasBegun run.course
  pub its_taker : run.taker ≡ taker
  pub its_seat : run.seat ≡ seat

-- the seats that boxes have
abbrev pub seats_of : List BoxRun → List FlightSeat
seats_of runs = map (λ (run : BoxRun). run.seat) runs

-- an operator of this number is about to ask at these desks
pub record IsAskerOf (desks : List Desk) (operator : ℕ) (asker : Asker) : Type 0 where
  pub new : IsNewAsker desks asker
  pub number : asker.number ≡ operator

-- these are so many operators, each about to ask at these desks
pub record AreAskersOf (desks : List Desk) (operators : ℕ) (askers : List Asker) : Type 0 where
  pub count : length askers ≡ operators
  pub each : (operator : ℕ) (asker : Asker) → slice_get askers operator ≡ Some asker → IsAskerOf desks operator asker

-- all is there: each box is set free at a desk of its own and with a seat, each operator has a pass for each desk, and
-- the seats that no box has were not used
pub record IsPrepared (operators : ℕ) (members : List Member) (parts : PhaseParts) : Type 0 where
  pub free : AreSetFree members parts.runs.items
  pub begin : AreNewRuns parts.flight parts.desks.items parts.runs.items
  pub counts : HaveOperators operators parts.desks.items
  pub places : HaveRoom ROOM parts.desks.items
  pub are_askers : AreAskersOf parts.desks.items operators parts.askers.items
  pub seats : AreAllSeats parts.flight (parts.spare.items ++ seats_of parts.runs.items)
  pub unused : AllByRecursion IsUnused parts.spare.items

-- ---- after

-- of each operator the passes
abbrev pub passes_of : List Asker → List (List Operator)
passes_of askers = map (λ (asker : Asker). asker.passes.items) askers

abbrev pub takers_of : List BoxRun → List Taker
takers_of runs = map (λ (run : BoxRun). run.taker) runs

-- what each box took
abbrev pub all_taken : List BoxRun → List (List Request)
all_taken runs = map (λ (run : BoxRun). run.course.taken.items) runs

-- all parts are back, so that desks and counter can be closed
pub record CanClose (parts : PhaseParts) : Type 0 where
  pub desks : CanFinish ROOM parts.desks.items (takers_of parts.runs.items) (passes_of parts.askers.items)
  pub seats : AreAllSeats parts.flight (parts.spare.items ++ seats_of parts.runs.items)
  pub unused : AllByRecursion IsUnused parts.spare.items

-- the boxes are members again; what they took, and how many signals they sent and took; and what is left on their desks
pub record IsFinished (askers : List Asker) (runs : List BoxRun) (finished : Finished) : Type 0 where
  pub members : finished.members.items ≡ map member_of runs
  pub taken : request_lists finished.taken.items ≡ all_taken runs
  pub sent : finished.totals.sent ≡ sum_by sent_count (seats_of runs)
  pub took : finished.totals.taken ≡ sum_by taken_count (seats_of runs)
  pub rests : List (Queue Request)
  pub are_rests : AreRests (takers_of runs) (passes_of askers) rests
