-- What carrying on the lanes of a team does.
use Rattle.std.specs.Prelude.{◌≡◌, ◌≢◌, ◌<◌, ℕ, List, length, map, slice_get, Option, Some}
use Rattle.mc_box.specs.Boxes.{BoxState}
use Rattle.mc_box.specs.declared.event.Event.{Event}
use Rattle.mc_lane.specs.Queue.{Queue}
use Rattle.mc_team.specs.Layouts.{ends_of_lane}
use Rattle.mc_team.specs.declared.layout.LaneEnds.{LaneEnds}
use Rattle.mc_port.specs.Ends.{in_ring, out_ring}
use Rattle.mc_team.specs.declared.member.Member.{Member}
use Rattle.mc_signal.specs.declared.Signal.{Signal}
use Rattle.mc_team.specs.Ends.{IsTied, giving_end, in_names, in_view, out_names, out_view, taking_end}
use Rattle.mc_worker.specs.Account.{in_at, out_at}
use Rattle.mc_worker.specs.Carrying.{IsBroughtIn}
use Rattle.mc_worker.specs.Ready.{IsReady}
use Rattle.mc_worker.specs.declared.logged.Logged.{Logged}
use Rattle.mc_worker.specs.declared.stop.RoundEnd.{RoundEnd}
use Rattle.mc_worker.specs.declared.worker.Worker.{Worker}

-- what a box has beside its channel ends
pub record MemberRest : Type 0 where
  pub part : BoxState
  pub place : List (ℕ × ℕ)
  pub stimuli : Queue Event
  pub log : Queue Logged
  pub scratch : Queue (ℕ × Signal)
  pub stamp : ℕ
  pub shifts : ℕ
  pub end : Option RoundEnd

abbrev pub rest_with : Worker → Option RoundEnd → MemberRest
rest_with worker end = record {
  part = worker.part;
  place = worker.place;
  stimuli = worker.stimuli;
  log = worker.log;
  scratch = worker.scratch;
  stamp = worker.stamp;
  shifts = worker.shifts;
  end = end;
}

abbrev pub rest_of : Member → MemberRest
rest_of member = rest_with member.worker member.end

abbrev pub AreReady : List Member → Type 0
AreReady members = (who : ℕ) (member : Member) → slice_get members who ≡ Some member → IsReady member.worker

-- a member is as it was but for what stands at its channel ends
pub record KeepsMember (old new : Member) : Type 0 where
  pub rest : rest_of new ≡ rest_of old
  pub in_rings : map in_ring new.worker.ins.items ≡ map in_ring old.worker.ins.items
  pub out_rings : map out_ring new.worker.outs.items ≡ map out_ring old.worker.outs.items
  pub ready : IsReady new.worker

-- and so is each
pub record KeepsBoxes (old new : List Member) : Type 0 where
  pub rest : map rest_of new ≡ map rest_of old
  pub in_rings : (who : ℕ) → in_names new who ≡ in_names old who
  pub out_rings : (who : ℕ) → out_names new who ≡ out_names old who
  pub ready : AreReady new

-- between two members: what was under way from a channel end of the one to one of the other
pub record IsCarriedTo (a b : Member) (end far : ℕ) (a' b' : Member) : Type 0 where
  pub lane : IsBroughtIn (out_at a.worker end) (out_at a'.worker end) (in_at b.worker far) (in_at b'.worker far)
  pub other_outs : (e : ℕ) → e ≢ end → out_at a'.worker e ≡ out_at a.worker e
  pub other_ins : (e : ℕ) → e ≢ far → in_at b'.worker e ≡ in_at b.worker e
  pub ins : (e : ℕ) → in_at a'.worker e ≡ in_at a.worker e
  pub outs : (e : ℕ) → out_at b'.worker e ≡ out_at b.worker e
  pub from_keeps : KeepsMember a a'
  pub to_keeps : KeepsMember b b'

-- and within one
pub record IsCarriedWithin (a : Member) (end far : ℕ) (a' : Member) : Type 0 where
  pub lane : IsBroughtIn (out_at a.worker end) (out_at a'.worker end) (in_at a.worker far) (in_at a'.worker far)
  pub other_outs : (e : ℕ) → e ≢ end → out_at a'.worker e ≡ out_at a.worker e
  pub other_ins : (e : ℕ) → e ≢ far → in_at a'.worker e ≡ in_at a.worker e
  pub keeps : KeepsMember a a'

-- what was under way on a lane is in the inbox, and all other channel ends are as they were
pub record IsLaneCarried (old new : List Member) (ends : LaneEnds) : Type 0 where
  pub lane : IsBroughtIn (giving_end old ends) (giving_end new ends) (taking_end old ends) (taking_end new ends)
  pub ins : (who end : ℕ) → (who ≡ ends.to → end ≢ ends.to_end) → in_view new who end ≡ in_view old who end
  pub outs : (who end : ℕ) → (who ≡ ends.from → end ≢ ends.from_end) → out_view new who end ≡ out_view old who end
  pub boxes : KeepsBoxes old new

-- no two lanes have an end in common
abbrev pub AreLanesApart : List LaneEnds → Type 0
AreLanesApart lanes = (l k : ℕ) → l < length lanes → k < length lanes → l ≢ k
    → ((ends_of_lane lanes l).to ≡ (ends_of_lane lanes k).to
    → (ends_of_lane lanes l).to_end ≢ (ends_of_lane lanes k).to_end)
    × ((ends_of_lane lanes l).from ≡ (ends_of_lane lanes k).from
    → (ends_of_lane lanes l).from_end ≢ (ends_of_lane lanes k).from_end)

abbrev pub AreTied : List Member → List LaneEnds → Type 0
AreTied members lanes = (lane : ℕ) → lane < length lanes → IsTied members (ends_of_lane lanes lane)

-- all that was under way on a lane is in the inbox
abbrev pub IsBroughtOn : (old new : List Member) → LaneEnds → Type 0
IsBroughtOn old new ends =
    IsBroughtIn (giving_end old ends) (giving_end new ends) (taking_end old ends) (taking_end new ends)

-- what stands at both ends of a lane is as it was
abbrev pub StaysAtLane : (old new : List Member) → LaneEnds → Type 0
StaysAtLane old new ends = (taking_end new ends ≡ taking_end old ends) × (giving_end new ends ≡ giving_end old ends)

-- what was under way on the lanes is in the inboxes, and nothing else changed
pub record CarriesLanes (lanes : List LaneEnds) (old new : List Member) : Type 0 where
  pub carried : (lane : ℕ) → lane < length lanes → IsBroughtOn old new (ends_of_lane lanes lane)
  pub boxes : KeepsBoxes old new
