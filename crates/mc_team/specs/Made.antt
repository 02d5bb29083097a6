-- What a team is made of, and what becomes of it.
use Rattle.std.specs.Prelude.{◌≡◌, ◌≢◌, ℕ, ◌<◌, ◌≤◌, List, [], length, map, slice_get, slice_set, Some}
use Rattle.std.specs.declared.alloc.Global.{Global}
use Rattle.std.specs.declared.vec.Vec.{Vec}
use Rattle.mc_box.specs.Boxes.{BoxState}
use Rattle.mc_lane.specs.Queue.{Queue}
use Rattle.mc_team.specs.Layouts.{at_end, inner_lists, of_box}
use Rattle.mc_team.specs.declared.layout.LaneEnds.{LaneEnds}
use Rattle.mc_team.specs.declared.layout.TeamLayout.{TeamLayout}
use Rattle.mc_model.specs.Worlds.{ChannelState, WorldState}
use Rattle.mc_team.specs.declared.member.Member.{Member}
use Rattle.mc_signal.specs.declared.Tagged.{Tagged}
use Rattle.mc_worker.specs.Boxes.{AreEmpty, box_of, items_of}
use Rattle.mc_worker.specs.Places.{AreAtEnds, ArePlaces}
use Rattle.mc_worker.specs.Ready.{IsReady}
use Rattle.mc_worker.specs.declared.limit.TheConstants.{END_LIMIT}

-- the world of these boxes, channels and lanes
abbrev pub world_with : List BoxState → List ChannelState → List (Queue Tagged) → WorldState
world_with boxes channels lanes = record { boxes = boxes; channels = channels; lanes = items_of lanes }

-- ---- members as new

-- no number stands twice in a list
abbrev pub AreApart : List ℕ → Type 0
AreApart numbers = (i j number : ℕ) → slice_get numbers i ≡ Some number → slice_get numbers j ≡ Some number → i ≡ j

-- a layout has all that the member of a box with so many slots wants, and the lanes that lead there are among so many
pub record CanMake (layout : TeamLayout) (lanes slots who : ℕ) : Type 0 where
  pub in_ends : who < length layout.ends.items
  pub in_places : who < length layout.places.items
  pub in_ins : who < length layout.ins.items
  pub in_outs : who < length layout.outs.items
  pub places : ArePlaces (of_box (inner_lists layout.places.items) who)
  pub long : length (of_box (inner_lists layout.places.items) who) ≡ slots
  pub at_ends : AreAtEnds (length (of_box (inner_lists layout.ins.items) who))
      (of_box (inner_lists layout.places.items) who)
  pub outs : length (of_box (inner_lists layout.outs.items) who) ≡ length (of_box (inner_lists layout.ins.items) who)
  pub ends : length (of_box (inner_lists layout.ends.items) who) ≡ length (of_box (inner_lists layout.ins.items) who)
  pub few : length (of_box (inner_lists layout.ins.items) who) ≤ END_LIMIT
  pub apart : AreApart (of_box (inner_lists layout.ends.items) who)
  pub there : (end lane : ℕ) → at_end (inner_lists layout.ends.items) who end ≡ Some lane → lane < lanes

-- a member as new, with what a layout has for its box: what is under way on the lanes that lead there is in its inboxes
pub record IsNewMember (layout : TeamLayout) (under_way : List (List Tagged)) (who : ℕ) (member : Member) : Type 0 where
  pub place : member.worker.place ≡ of_box (inner_lists layout.places.items) who
  pub ins : member.worker.ins.items ≡ of_box (inner_lists layout.ins.items) who
  pub outs : member.worker.outs.items ≡ of_box (inner_lists layout.outs.items) who
  pub inboxes : member.worker.inboxes ≡ map (box_of under_way) (of_box (inner_lists layout.ends.items) who)
  pub outboxes : AreEmpty member.worker.outboxes.boxes
  pub stimuli : member.worker.stimuli.items ≡ []
  pub log : member.worker.log.items ≡ []
  pub shifts : member.worker.shifts ≡ 0
  pub ready : IsReady member.worker

-- what a layout has for a box was taken, and nothing else changed
pub record IsTakenFor (who : ℕ) (old new : TeamLayout) : Type 0 where
  pub lanes : new.lanes ≡ old.lanes
  pub ends : new.ends ≡ old.ends
  pub places : inner_lists new.places.items ≡ slice_set (inner_lists old.places.items) who []
  pub ins : inner_lists new.ins.items ≡ slice_set (inner_lists old.ins.items) who []
  pub outs : inner_lists new.outs.items ≡ slice_set (inner_lists old.outs.items) who []

-- all lanes but those of these numbers have what they had
pub record LeavesOthers (numbers : List ℕ) (old new : List (List Tagged)) : Type 0 where
  pub count : length new ≡ length old
  pub others : (lane : ℕ) → ((i : ℕ) → slice_get numbers i ≢ Some lane) → box_of new lane ≡ box_of old lane

-- ---- inboxes by box

-- what is in the inboxes of each box
abbrev pub inboxes_of : List (Vec (Queue Tagged) Global) → List (List (List Tagged))
inboxes_of boxes = map (λ (lanes : Vec (Queue Tagged) Global). items_of lanes.items) boxes

-- what is in the inbox to which a lane leads
abbrev pub inbox_at : List (List (List Tagged)) → LaneEnds → List Tagged
inbox_at boxes ends = box_of (of_box boxes ends.to) ends.to_end

-- no two lanes lead to the same channel end, and each leads to one that is there
pub record LeadApart (lanes : List LaneEnds) (boxes : List (List (List Tagged))) : Type 0 where
  pub there : (l : ℕ) (ends : LaneEnds) → slice_get lanes l ≡ Some ends → ends.to_end < length (of_box boxes ends.to)
  pub apart : (l k : ℕ) (one other : LaneEnds) → slice_get lanes l ≡ Some one → slice_get lanes k ≡ Some other
      → one.to ≡ other.to → one.to_end ≡ other.to_end → l ≡ k
