-- What stands at the channel ends of a team's boxes, by box and end, and by lane.
use Rattle.std.specs.Prelude.{◌≡◌, ℕ, ◌<◌, List, [], length, map, slice_get, slice_index_or}
use Rattle.mc_box.specs.Boxes.{BoxState}
use Rattle.mc_box.specs.declared.event.Event.{Event}
use Rattle.mc_team.specs.declared.layout.LaneEnds.{LaneEnds}
use Rattle.mc_port.specs.Ends.{RingName, in_ring, out_ring}
use Rattle.mc_team.specs.declared.member.Member.{Member}
use Rattle.mc_worker.specs.Account.{in_at, out_at}
use Rattle.mc_worker.specs.Ends.{InEnd, OutEnd}

-- ---- by box and channel end

abbrev pub no_in : InEnd
no_in = record { inbox = []; got = []; known = []; looks = 0 }

abbrev pub no_out : OutEnd
no_out = record { outbox = []; given = []; free = 0; back = 0 }

-- what stands at a channel end of a box, on its way in
abbrev pub in_view : List Member → ℕ → ℕ → InEnd
in_view members who end =
    slice_index_or (map (λ (member : Member). in_at member.worker) members) who (λ (e : ℕ). no_in) end

-- and on its way out
abbrev pub out_view : List Member → ℕ → ℕ → OutEnd
out_view members who end =
    slice_index_or (map (λ (member : Member). out_at member.worker) members) who (λ (e : ℕ). no_out) end

-- what tells the rings of a box's channel ends apart
abbrev pub in_names : List Member → ℕ → List RingName
in_names members who = slice_index_or (map (λ (member : Member). map in_ring member.worker.ins.items) members) who []

abbrev pub out_names : List Member → ℕ → List RingName
out_names members who = slice_index_or (map (λ (member : Member). map out_ring member.worker.outs.items) members) who []

-- ---- by lane

-- what stands where a lane leads to, and where it leads from
abbrev pub taking_end : List Member → LaneEnds → InEnd
taking_end members ends = in_view members ends.to ends.to_end

abbrev pub giving_end : List Member → LaneEnds → OutEnd
giving_end members ends = out_view members ends.from ends.from_end

-- both ends of a lane are there, and are those of one ring
pub record IsTied (members : List Member) (ends : LaneEnds) : Type 0 where
  pub taker : ends.to < length members
  pub giver : ends.from < length members
  pub taking : ends.to_end < length (in_names members ends.to)
  pub giving : ends.from_end < length (out_names members ends.from)
  pub ring : slice_get (out_names members ends.from) ends.from_end ≡ slice_get (in_names members ends.to) ends.to_end

-- between rounds all that is under way on a lane is in the inbox: the ring is empty, and so is the outbox
pub record IsCleared (taking : InEnd) (giving : OutEnd) : Type 0 where
  pub ring : taking.got ≡ giving.given
  pub known : taking.known ≡ []
  pub outbox : giving.outbox ≡ []

-- ---- the boxes

abbrev pub parts_of : List Member → List BoxState
parts_of members = map (λ (member : Member). member.worker.part) members

abbrev pub stimuli_of : List Member → List (List Event)
stimuli_of members = map (λ (member : Member). member.worker.stimuli.items) members

abbrev pub shifts_of : List Member → List ℕ
shifts_of members = map (λ (member : Member). member.worker.shifts) members

abbrev pub places_of_boxes : List Member → List (List (ℕ × ℕ))
places_of_boxes members = map (λ (member : Member). member.worker.place) members
