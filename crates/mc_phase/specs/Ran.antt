-- A team whose boxes ran freely.
use Rattle.std.specs.Prelude.{◌≡◌, ◌+◌, List, count_by, length, map, Some}
use Rattle.std.specs.declared.alloc.Global.{Global}
use Rattle.std.specs.declared.vec.Vec.{Vec}
use Rattle.mc_box.specs.BoxEvents.{is_take}
use Rattle.mc_box.specs.declared.event.Turn.{Turn}
use Rattle.mc_desk.specs.declared.desk.Desk.{Desk}
use Rattle.mc_laws.specs.Measures.{under_way}
use Rattle.mc_live.specs.Askers.{HaveAsked}
use Rattle.mc_live.specs.BoxRuns.{HaveRunFreely}
use Rattle.mc_live.specs.Phases.{AreSetFree, LeftOnly, NoneRefused, member_of}
use Rattle.mc_live.specs.declared.box_run.BoxRun.{BoxRun}
use Rattle.mc_model.specs.Shapes.{AreAllowed}
use Rattle.mc_model.specs.Steps.{run}
use Rattle.mc_model.specs.Worlds.{WorldState}
use Rattle.mc_phase.specs.Asked.{AreTakenFrom, MeetsRequests, request_lists}
use Rattle.mc_phase.specs.declared.preparing.PhaseParts.{PhaseParts}
use Rattle.mc_phase.specs.declared.running.PhaseLog.{PhaseLog}
use Rattle.mc_team.specs.Layouts.{inner_lists}
use Rattle.mc_team.specs.Teams.{StandForWorld}
use Rattle.mc_team.specs.declared.boxes.TeamBoxes.{TeamBoxes}
use Rattle.mc_team.specs.declared.member.Member.{Member}

-- the members stood for a world; they were set free, ran, had memory, and are the members of the team again
pub record HasRunFrom (old : List Member) (desks : List Desk) (began free : List BoxRun)
    (team : TeamBoxes) : Type 0 where
  pub stood : StandForWorld team.channels.items old team.lanes.items (inner_lists team.ends.items)
  pub set : AreSetFree old began
  pub ran : HaveRunFreely desks began free
  pub calm : NoneRefused free
  pub members : team.members.items ≡ map member_of free

-- the same channels, lanes and channel ends, of as many boxes
pub record IsSameNetwork (old new : TeamBoxes) : Type 0 where
  pub channels : new.channels ≡ old.channels
  pub lanes : new.lanes ≡ old.lanes
  pub ends : new.ends ≡ old.ends
  pub count : length new.members.items ≡ length old.members.items

-- all operators have asked, and all boxes have run; desks, counter and spare seats are as they were
pub record HaveAllRun (hands : List (Vec Turn Global)) (old new : PhaseParts) : Type 0 where
  pub desks : new.desks ≡ old.desks
  pub flight : new.flight ≡ old.flight
  pub spare : new.spare ≡ old.spare
  pub asked : HaveAsked hands old.askers.items new.askers.items
  pub ran : HaveRunFreely old.desks.items old.runs.items new.runs.items

-- a phase leads from the one world to the other
pub record IsPhase (hands : List (List Turn)) (first last : WorldState) (log : PhaseLog) : Type 0 where
  pub runs : run first log.turns.items ≡ Some last
  pub taken : AreTakenFrom hands (length first.boxes) (request_lists log.taken.items)
  pub commands : MeetsRequests (request_lists log.taken.items) log.turns.items log.left.turns.items
  pub left : LeftOnly log.turns.items log.left.turns.items last
  pub allowed : AreAllowed last log.left.turns.items
  pub takes : log.flight.taken ≡ count_by (λ (turn : Turn). is_take turn.event) log.turns.items
  pub sends : under_way first + log.flight.sent ≡ log.flight.taken + under_way last
