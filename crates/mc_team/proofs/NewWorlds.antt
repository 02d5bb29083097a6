-- Members as new stand for the world that they were made of.
use Rattle.std.proofs.Common.{◌≡◌, ℕ, zero, suc, ◌++◌, ◌*◌, ◌<◌, ◌≤◌, List, [], ◌∷◌, Some, All, length, map, replicate, slice_get, slice_index_or, refl, sym, ◌∙◌, ap, subst, arith}
use Rattle.std.proofs.lemmas.List.{append-nil, get_or-map, get_or_default, length-map, length-replicate, same_lists}
use Rattle.std.proofs.lemmas.Option.{slice_get_within}
use Rattle.mc_box.specs.Boxes.{BoxState}
use Rattle.mc_team.proofs.ByPlace.{map_one}
use Rattle.mc_team.proofs.SameTeams.{team_by, the_world, world_by}
use Rattle.mc_team.proofs.MemberLists.{giving_there, taking_there}
use Rattle.mc_team.proofs.NewBoxes.{IsMaking}
use Rattle.mc_team.specs.Teams.{AreCleared, AreLaidOut, StandForWorld, lanes_of, new_team, team_of, world_of}
use Rattle.mc_team.specs.Made.{IsNewMember}
use Rattle.mc_team.specs.declared.limit.TheConstants.{TEAM_LIMIT}
use Rattle.mc_team.specs.Layouts.{IsLayoutOf, IsNewIn, IsNewOut, IsPlacedAt, at_end, ends_of_lane, inner_lists, no_lane_ends, of_box}
use Rattle.mc_team.specs.declared.layout.LaneEnds.{LaneEnds}
use Rattle.mc_team.specs.declared.layout.TeamLayout.{TeamLayout}
use Rattle.mc_model.specs.Sound.{IsNumbered, IsSound}
use Rattle.mc_model.specs.Worlds.{AreChannels, ChannelState, far, first_world}
use Rattle.mc_port.specs.Ends.{RingName, given, in_ring, known, out_ring, received}
use Rattle.mc_port.specs.declared.ends.InPort.{InPort}
use Rattle.mc_port.specs.declared.ends.OutPort.{OutPort}
use Rattle.mc_team.specs.declared.member.Member.{Member}
use Rattle.mc_signal.specs.declared.Tagged.{Tagged}
use Rattle.mc_team.proofs.Lists.{at_some, there_is}
use Rattle.mc_team.specs.Ends.{IsCleared, IsTied, giving_end, in_names, out_names, parts_of, places_of_boxes, shifts_of, stimuli_of, taking_end}
use Rattle.mc_worker.specs.Account.{in_at, out_at}
use Rattle.mc_worker.specs.Boxes.{box_of}
use Rattle.mc_worker.specs.Ends.{InEnd, OutEnd}

-- the same numbers, with nothing under way
pub numbered_first : (boxes : List BoxState) (channels : List ChannelState) (lanes : List (List Tagged)) → IsNumbered (record { boxes = boxes; channels = channels; lanes = lanes }) → IsNumbered (first_world boxes channels)
numbered_first boxes channels lanes n = record {
  boxes = n.boxes;
  whole = n.whole;
  lanes = length-replicate (2 * length channels) [];
  placed = n.placed;
  slots = n.slots;
  once = n.once;
  all = n.all;
  origins = n.origins;
  media = n.media;
  sides = n.sides;
}

-- each box has its member
pub record AreNewMembers (boxes : List BoxState) (channels : List ChannelState) (layout : TeamLayout) (under_way : List (List Tagged)) (members : List Member) : Type 0 where
  pub parts : parts_of members ≡ boxes
  pub laid_out : IsLayoutOf boxes channels layout
  pub each : (who : ℕ) (member : Member) → slice_get members who ≡ Some member → IsNewMember layout under_way who member
  pub lanes : length under_way ≡ 2 * length channels

-- ---- channel ends as new

-- where each element gives nothing, there is nothing at any place
none_at : {A B : Type 0} (P : A → Type 0) (f : A → List B) → ((x : A) → P x → f x ≡ []) → (xs : List A) (i : ℕ) → All P xs → slice_index_or (map f xs) i [] ≡ []
none_at P f none [] i all = refl
none_at P f none (x ∷ xs) zero all = none x (all 0 x (omega arith))
none_at P f none (x ∷ xs) (suc i) all = none_at P f none xs i (λ k d within. all (suc k) d (omega arith))

-- ---- where the lanes lead

-- there is a member for each box
pub member_count : (boxes : List BoxState) (channels : List ChannelState) (layout : TeamLayout) (under_way : List (List Tagged)) (members : List Member) → AreNewMembers boxes channels layout under_way members → length members ≡ length boxes
member_count boxes channels layout under_way members are = sym (length-map members (λ (s : Member). s.worker.part)) ∙ ap (λ (l : List BoxState). length l) are.parts

-- a list of a box that has something is there
box_within : (ends : List (List ℕ)) (who end lane : ℕ) → at_end ends who end ≡ Some lane → who < length ends
box_within [] who end lane at = cc
box_within (x ∷ xs) zero end lane at = omega arith
box_within (x ∷ xs) (suc who) end lane at = let below = box_within xs who end lane at in omega arith

-- so a lane that is at an end of a box has its member
member_there : (boxes : List BoxState) (channels : List ChannelState) (layout : TeamLayout) (under_way : List (List Tagged)) (members : List Member) (who end lane : ℕ) → AreNewMembers boxes channels layout under_way members
    → at_end (inner_lists layout.ends.items) who end ≡ Some lane → who < length members
member_there boxes channels layout under_way members who end lane are at =
    let within = box_within (inner_lists layout.ends.items) who end lane at in
    let count = member_count boxes channels layout under_way members are in
    omega (arith, within, count, length-map layout.ends.items (λ v. v.items), are.laid_out.whole.box_count)

-- the box to which a lane leads, and that from which it leads
taker_member : (boxes : List BoxState) (channels : List ChannelState) (layout : TeamLayout) (under_way : List (List Tagged)) (members : List Member) (lane : ℕ) → AreNewMembers boxes channels layout under_way members
    → lane < length layout.lanes.items → (member : Member) × (slice_get members (ends_of_lane layout.lanes.items lane).to ≡ Some member)
taker_member boxes channels layout under_way members lane are below =
    there_is members (ends_of_lane layout.lanes.items lane).to (member_there boxes channels layout under_way members (ends_of_lane layout.lanes.items lane).to _ _ are (are.laid_out.whole.ends.taking lane below))

-- and the other
giver_member : (boxes : List BoxState) (channels : List ChannelState) (layout : TeamLayout) (under_way : List (List Tagged)) (members : List Member) (lane : ℕ) → AreNewMembers boxes channels layout under_way members
    → lane < length layout.lanes.items → (member : Member) × (slice_get members (ends_of_lane layout.lanes.items lane).from ≡ Some member)
giver_member boxes channels layout under_way members lane are below =
    there_is members (ends_of_lane layout.lanes.items lane).from (member_there boxes channels layout under_way members (ends_of_lane layout.lanes.items lane).from _ _ are (are.laid_out.whole.ends.giving lane below))

-- ---- nothing is under way but in inboxes

-- between two new boxes nothing is under way
cleared_by : (layout : TeamLayout) (under_way : List (List Tagged)) (who far_who end far_end : ℕ) (a b : Member) (taking : InEnd) (giving : OutEnd) → IsNewMember layout under_way who a → IsNewMember layout under_way far_who b
    → All IsNewIn (of_box (inner_lists layout.ins.items) who) → All IsNewOut (of_box (inner_lists layout.outs.items) far_who)
    → taking ≡ in_at a.worker end → giving ≡ out_at b.worker far_end → IsCleared taking giving
cleared_by layout under_way who far_who end far_end a b taking giving one other new_ins new_outs takes gives = record {
  ring =
      ap (λ (t : InEnd). t.got) takes ∙ (ap (λ (l : List InPort). slice_index_or (map received l) end []) one.ins ∙ (none_at IsNewIn received (λ port new. new.nothing) (of_box (inner_lists layout.ins.items) who) end new_ins
      ∙ (sym (none_at IsNewOut given (λ port new. new) (of_box (inner_lists layout.outs.items) far_who) far_end new_outs) ∙ (sym (ap (λ (l : List OutPort). slice_index_or (map given l) far_end []) other.outs) ∙ sym (ap (λ (g : OutEnd). g.given) gives)))));
  known = ap (λ (t : InEnd). t.known) takes ∙ (ap (λ (l : List InPort). slice_index_or (map known l) end []) one.ins ∙ none_at IsNewIn known (λ port new. new.unknown) (of_box (inner_lists layout.ins.items) who) end new_ins);
  outbox = ap (λ (g : OutEnd). g.outbox) gives ∙ other.outboxes far_end;
}

-- so nothing is on any lane's ring
cleared : (boxes : List BoxState) (channels : List ChannelState) (layout : TeamLayout) (under_way : List (List Tagged)) (members : List Member) → AreNewMembers boxes channels layout under_way members → AreCleared members layout.lanes.items
cleared boxes channels layout under_way members are lane below =
    let ends : LaneEnds = ends_of_lane layout.lanes.items lane in
    let to = taker_member boxes channels layout under_way members lane are below in
    let from = giver_member boxes channels layout under_way members lane are below in
    cleared_by layout under_way ends.to ends.from ends.to_end ends.from_end to.0 from.0 (taking_end members ends) (giving_end members ends) (are.each ends.to to.0 to.1) (are.each ends.from from.0 from.1)
    (are.laid_out.whole.new_ins ends.to) (are.laid_out.whole.new_outs ends.from) (taking_there members ends to.0 to.1) (giving_there members ends from.0 from.1)

-- ---- the layout

-- the two ends of a lane have one ring
tied : (boxes : List BoxState) (channels : List ChannelState) (layout : TeamLayout) (under_way : List (List Tagged)) (members : List Member) (lane : ℕ) → AreNewMembers boxes channels layout under_way members → lane < length layout.lanes.items
    → IsTied members (ends_of_lane layout.lanes.items lane)
tied boxes channels layout under_way members lane are below =
    let ends : LaneEnds = ends_of_lane layout.lanes.items lane in
    let whole = are.laid_out.whole in
    let to = taker_member boxes channels layout under_way members lane are below in
    let from = giver_member boxes channels layout under_way members lane are below in
    let ins : in_names members ends.to ≡ map in_ring (of_box (inner_lists layout.ins.items) ends.to) =
    at_some (λ (s : Member). map in_ring s.worker.ins.items) members ends.to to.0 [] to.1 ∙ ap (λ (l : List InPort). map in_ring l) (are.each ends.to to.0 to.1).ins in
    let outs : out_names members ends.from ≡ map out_ring (of_box (inner_lists layout.outs.items) ends.from) =
    at_some (λ (s : Member). map out_ring s.worker.outs.items) members ends.from from.0 [] from.1 ∙ ap (λ (l : List OutPort). map out_ring l) (are.each ends.from from.0 from.1).outs in
    let in_below = slice_get_within (of_box (inner_lists layout.ends.items) ends.to) ends.to_end lane (whole.ends.taking lane below) in
    let out_below = slice_get_within (of_box (inner_lists layout.ends.items) ends.from) ends.from_end (far lane) (whole.ends.giving lane below) in
    record {
      taker = slice_get_within members ends.to to.0 to.1;
      giver = slice_get_within members ends.from from.0 from.1;
      taking = subst (λ (n : ℕ). ends.to_end < n) (sym (ap (λ (l : List RingName). length l) ins ∙ (length-map (of_box (inner_lists layout.ins.items) ends.to) in_ring ∙ whole.in_count ends.to))) in_below;
      giving = subst (λ (n : ℕ). ends.from_end < n) (sym (ap (λ (l : List RingName). length l) outs ∙ (length-map (of_box (inner_lists layout.outs.items) ends.from) out_ring ∙ whole.out_count ends.from))) out_below;
      ring = ap (λ (l : List RingName). slice_get l ends.from_end) outs ∙ (sym (whole.rings lane below) ∙ sym (ap (λ (l : List RingName). slice_get l ends.to_end) ins));
    }

-- the places are those of the layout
place_at : (layout : TeamLayout) (under_way : List (List Tagged)) (members : List Member) (k : ℕ) (d : List (ℕ × ℕ)) → ((who : ℕ) (member : Member) → slice_get members who ≡ Some member → IsNewMember layout under_way who member)
    → k < length members → k < length (inner_lists layout.places.items) → slice_index_or (places_of_boxes members) k d ≡ slice_index_or (inner_lists layout.places.items) k d
place_at layout under_way members k d each within below =
    let here = there_is members k within in
    at_some (λ (s : Member). s.worker.place) members k here.0 d here.1 ∙ ((each k here.0 here.1).place ∙ get_or_default (inner_lists layout.places.items) k [] d below)

-- so they are, box by box
same_places : (boxes : List BoxState) (channels : List ChannelState) (layout : TeamLayout) (under_way : List (List Tagged)) (members : List Member) → AreNewMembers boxes channels layout under_way members
    → places_of_boxes members ≡ inner_lists layout.places.items
same_places boxes channels layout under_way members are =
    let count = member_count boxes channels layout under_way members are in
    let long = length-map members (λ (s : Member). s.worker.place) in
    same_lists (places_of_boxes members) (inner_lists layout.places.items) (long ∙ (count ∙ sym are.laid_out.whole.bare.count))
    (λ k d within. place_at layout under_way members k d are.each (omega (arith, within, long)) (omega (arith, within, long, count, are.laid_out.whole.bare.count)))

-- the members are laid out as the layout says
laid : (boxes : List BoxState) (channels : List ChannelState) (layout : TeamLayout) (under_way : List (List Tagged)) (members : List Member) → AreNewMembers boxes channels layout under_way members
    → AreLaidOut channels members layout.lanes.items (inner_lists layout.ends.items)
laid boxes channels layout under_way members are =
    let whole = are.laid_out.whole in
    record {
      lane_count = whole.lane_count;
      joins = whole.joins;
      numbered = whole.ends;
      box_count = length-map layout.ends.items (λ v. v.items) ∙ (whole.box_count ∙ sym (member_count boxes channels layout under_way members are));
      end_count = λ who member at. ap (λ (l : List InPort). length l) (are.each who member at).ins ∙ whole.in_count who;
      places = λ s below. subst (λ (l : List BoxState). IsPlacedAt l channels (inner_lists layout.ends.items) (places_of_boxes members) s) (sym are.parts)
          (subst (λ (l : List (List (ℕ × ℕ))). IsPlacedAt boxes channels (inner_lists layout.ends.items) l s) (sym (same_places boxes channels layout under_way members are)) (whole.places s below));
      tied = λ lane below. tied boxes channels layout under_way members lane are below;
    }

-- ---- the world

-- what waits at the end of a lane is what was under way on it
waiting_at : (boxes : List BoxState) (channels : List ChannelState) (layout : TeamLayout) (under_way : List (List Tagged)) (members : List Member) (lane : ℕ) → AreNewMembers boxes channels layout under_way members → lane < length layout.lanes.items
    → (taking_end members (ends_of_lane layout.lanes.items lane)).inbox ≡ box_of under_way lane
waiting_at boxes channels layout under_way members lane are below =
    let ends : LaneEnds = ends_of_lane layout.lanes.items lane in
    let to = taker_member boxes channels layout under_way members lane are below in
    ap (λ (t : InEnd). t.inbox) (taking_there members ends to.0 to.1)
    ∙ (ap (λ (l : List (List Tagged)). box_of l ends.to_end) (are.each ends.to to.0 to.1).inboxes
    ∙ at_some (box_of under_way) (of_box (inner_lists layout.ends.items) ends.to) ends.to_end lane [] (are.laid_out.whole.ends.taking lane below))

-- so the lanes are as they were
same_lanes : (boxes : List BoxState) (channels : List ChannelState) (layout : TeamLayout) (under_way : List (List Tagged)) (members : List Member) → AreNewMembers boxes channels layout under_way members → lanes_of members layout.lanes.items ≡ under_way
same_lanes boxes channels layout under_way members are =
    let f : LaneEnds → List Tagged = λ (ends : LaneEnds). (taking_end members ends).inbox in
    let long = length-map layout.lanes.items f in
    same_lists (map f layout.lanes.items) under_way (long ∙ (are.laid_out.whole.lane_count ∙ sym are.lanes))
    (λ k d within.
    let below : k < length layout.lanes.items = omega (arith, within, long) in
    get_or-map f layout.lanes.items k no_lane_ends d below ∙ (waiting_at boxes channels layout under_way members k are below ∙ get_or_default under_way k [] d (omega (arith, below, are.laid_out.whole.lane_count, are.lanes))))

-- and so is the world
same_world : (boxes : List BoxState) (channels : List ChannelState) (layout : TeamLayout) (under_way : List (List Tagged)) (members : List Member) → AreNewMembers boxes channels layout under_way members
    → world_of channels members layout.lanes.items ≡ the_world channels boxes under_way
same_world boxes channels layout under_way members are = world_by channels (parts_of members) boxes (lanes_of members layout.lanes.items) under_way are.parts (same_lanes boxes channels layout under_way members are)

-- so the members stand for that world
pub stand_as_new : (boxes : List BoxState) (channels : List ChannelState) (layout : TeamLayout) (under_way : List (List Tagged)) (members : List Member) → AreNewMembers boxes channels layout under_way members
    → AreChannels channels → IsSound (the_world channels boxes under_way) → length boxes ≤ TEAM_LIMIT → StandForWorld channels members layout.lanes.items (inner_lists layout.ends.items)
stand_as_new boxes channels layout under_way members are within sound few = record {
  within = within;
  laid_out = laid boxes channels layout under_way members are;
  ready = λ who member at. (are.each who member at).ready;
  cleared = cleared boxes channels layout under_way members are;
  sound = subst IsSound (sym (same_world boxes channels layout under_way members are)) sound;
  few = subst (λ (n : ℕ). n ≤ TEAM_LIMIT) (sym (member_count boxes channels layout under_way members are)) few;
}

-- and are that world's new team
pub new_state : (boxes : List BoxState) (channels : List ChannelState) (layout : TeamLayout) (under_way : List (List Tagged)) (members : List Member) → AreNewMembers boxes channels layout under_way members
    → team_of channels members layout.lanes.items ≡ new_team (the_world channels boxes under_way)
new_state boxes channels layout under_way members are =
    let count = member_count boxes channels layout under_way members are in
    team_by (world_of channels members layout.lanes.items) (the_world channels boxes under_way) (stimuli_of members) (replicate (length boxes) []) (shifts_of members) (replicate (length boxes) 0)
    (same_world boxes channels layout under_way members are)
    (map_one (λ (s : Member). s.worker.stimuli.items) members [] (length boxes) count (λ who member at. (are.each who member at).stimuli))
    (map_one (λ (s : Member). s.worker.shifts) members 0 (length boxes) count (λ who member at. (are.each who member at).shifts))

-- ---- what the calls answer

-- a layout of the same boxes and channels is one of these
pub laid_with : (boxes b : List BoxState) (channels c : List ChannelState) (layout : TeamLayout) → b ≡ boxes → c ≡ channels → IsLayoutOf b c layout → IsLayoutOf boxes channels layout
laid_with boxes b channels c layout p q laid = subst (λ (l : List BoxState). IsLayoutOf l channels layout) p (subst (λ (l : List ChannelState). IsLayoutOf b l layout) q laid)

-- no box is left to be membered
pub all_made : (boxes : List BoxState) (channels : List ChannelState) (first layout : TeamLayout) (under_way now : List (List Tagged)) (members : List Member) (rest : List BoxState) → IsMaking first under_way boxes members rest layout now → rest ≡ []
    → IsLayoutOf boxes channels first → length under_way ≡ 2 * length channels → AreNewMembers boxes channels first under_way members
all_made boxes channels first layout under_way now members rest so_far none laid long = record {
  parts = sym (append-nil (parts_of members)) ∙ (ap (λ (l : List BoxState). parts_of members ++ l) (sym none) ∙ so_far.all);
  laid_out = laid;
  each = so_far.made;
  lanes = long;
}
