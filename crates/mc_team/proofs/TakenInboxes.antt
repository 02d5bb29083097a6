-- Inboxes of many boxes that are taken one by one.
use Rattle.std.proofs.Common.{Global, List, Some, Vec, [], ap, arith, inl, inr, length, map, refl, slice_get, slice_index_or, slice_set, subst, suc, sym, take, zero, ℕ, ◌++◌, ◌+◌, ◌<◌, ◌∙◌, ◌∷◌, ◌≡◌, ◌≢◌, ◌≤◌, ◌⊎◌}
use Rattle.std.proofs.lemmas.Bool.{cases_eq}
use Rattle.std.proofs.lemmas.List.{append-nil, append_assoc, get_or-set_other, get_or-set_same, length-map, length-set, map-set, map_push, take_all}
use Rattle.std.proofs.lemmas.Option.{get_or_from_slice_get, slice_get_read, slice_get_within}
use Rattle.mc_box.specs.Boxes.{BoxState}
use Rattle.mc_team.proofs.ByPlace.{map_more_at, map_same}
use Rattle.mc_team.proofs.SameTeams.{world_by}
use Rattle.mc_team.proofs.MemberLists.{taking_there}
use Rattle.mc_team.proofs.TakenLanes.{lane_left}
use Rattle.mc_team.specs.Teams.{StandForWorld, lanes_of, world_of}
use Rattle.mc_team.specs.Made.{LeadApart, inbox_at, inboxes_of, world_with}
use Rattle.mc_lane.specs.Queue.{Queue}
use Rattle.mc_team.specs.Layouts.{at_end, ends_of_lane, no_lane_ends, of_box}
use Rattle.mc_team.specs.declared.layout.LaneEnds.{LaneEnds}
use Rattle.mc_model.specs.Worlds.{ChannelState}
use Rattle.mc_port.specs.Ends.{RingName, in_ring}
use Rattle.mc_team.specs.declared.member.Member.{Member}
use Rattle.mc_signal.specs.declared.Tagged.{Tagged}
use Rattle.mc_team.proofs.Lists.{at_some, one_of, there_is}
use Rattle.mc_team.proofs.Pairs.{in_names_of}
use Rattle.mc_team.specs.Ends.{in_names, parts_of, taking_end}
use Rattle.mc_worker.specs.Boxes.{box_of, items_of}
use Rattle.mc_worker.specs.Ends.{InEnd}

-- ---- one inbox

-- a box whose inboxes reach up to an end is there
box_there : (boxes : List (List (List Tagged))) (who end : ℕ) → end < length (of_box boxes who) → who < length boxes
box_there [] who end within = absurd (omega arith)
box_there (x ∷ xs) zero end within = omega arith
box_there (x ∷ xs) (suc who) end within = let below = box_there xs who end within in omega arith

-- one inbox leaves an empty one
abbrev pub without_inbox : List (List (List Tagged)) → LaneEnds → List (List (List Tagged))
without_inbox boxes ends = slice_set boxes ends.to (slice_set (of_box boxes ends.to) ends.to_end [])

-- a box of which an inbox is taken leaves that of a lane's end empty
pub inbox_left : (boxes : List (Vec (Queue Tagged) Global)) (ends : LaneEnds) (own more : Vec (Queue Tagged) Global) (new : Queue Tagged) → ends.to_end < length (of_box (inboxes_of boxes) ends.to)
    → own ≡ slice_index_or boxes ends.to own → more.items ≡ slice_set own.items ends.to_end new → new.items ≡ [] → inboxes_of (slice_set boxes ends.to more) ≡ without_inbox (inboxes_of boxes) ends
inbox_left boxes ends own more new there is put empty =
    let below = box_there (inboxes_of boxes) ends.to ends.to_end there in
    let within : ends.to < length boxes = omega (arith, below, length-map boxes (λ (v : Vec (Queue Tagged) Global). items_of v.items)) in
    let had : of_box (inboxes_of boxes) ends.to ≡ items_of own.items = at_some (λ (v : Vec (Queue Tagged) Global). items_of v.items) boxes ends.to own [] (slice_get_read boxes (length boxes) ends.to own refl within is) in
    map-set (λ (v : Vec (Queue Tagged) Global). items_of v.items) boxes ends.to more
    ∙ ap (λ (l : List (List Tagged)). slice_set (inboxes_of boxes) ends.to l)
    (ap (λ (l : List (Queue Tagged)). items_of l) put ∙ (lane_left own.items ends.to_end new empty ∙ ap (λ (l : List (List Tagged)). slice_set l ends.to_end []) (sym had)))

-- what the box has then
own_left : (boxes : List (List (List Tagged))) (ends : LaneEnds) → ends.to_end < length (of_box boxes ends.to) → of_box (without_inbox boxes ends) ends.to ≡ slice_set (of_box boxes ends.to) ends.to_end []
own_left boxes ends there = get_or-set_same boxes ends.to (slice_set (of_box boxes ends.to) ends.to_end []) [] (box_there boxes ends.to ends.to_end there)

-- as many inboxes are left
lengths_left : (boxes : List (List (List Tagged))) (ends : LaneEnds) (who : ℕ) → ends.to_end < length (of_box boxes ends.to) → (who ≡ ends.to) ⊎ (who ≢ ends.to) → length (of_box (without_inbox boxes ends) who) ≡ length (of_box boxes who)
lengths_left boxes ends who there (inl is) =
    subst (λ (n : ℕ). length (of_box (without_inbox boxes ends) n) ≡ length (of_box boxes n)) (sym is) (ap (λ (l : List (List Tagged)). length l) (own_left boxes ends there) ∙ length-set (of_box boxes ends.to) ends.to_end [])
lengths_left boxes ends who there (inr off) = ap (λ (l : List (List Tagged)). length l) (get_or-set_other boxes ends.to who _ [] off)

-- and the others have what they had
other_left : (boxes : List (List (List Tagged))) (ends other : LaneEnds) → ends.to_end < length (of_box boxes ends.to) → (other.to ≡ ends.to → other.to_end ≢ ends.to_end) → (other.to ≡ ends.to) ⊎ (other.to ≢ ends.to)
    → inbox_at (without_inbox boxes ends) other ≡ inbox_at boxes other
other_left boxes ends other there apart (inl is) =
    subst (λ (n : ℕ). box_of (of_box (without_inbox boxes ends) n) other.to_end ≡ box_of (of_box boxes n) other.to_end) (sym is)
    (ap (λ (l : List (List Tagged)). box_of l other.to_end) (own_left boxes ends there) ∙ get_or-set_other (of_box boxes ends.to) ends.to_end other.to_end [] [] (apart is))
other_left boxes ends other there apart (inr off) = ap (λ (l : List (List Tagged)). box_of l other.to_end) (get_or-set_other boxes ends.to other.to _ [] off)

-- ---- one after the other

-- the inboxes to which the first of these lanes lead were taken
pub record IsEmptying (lanes : List LaneEnds) (i : ℕ) (old now : List (List (List Tagged))) (taken : List (List Tagged)) : Type 0 where
  pub taken_so_far : taken ≡ map (inbox_at old) (take i lanes)
  pub lengths : (who : ℕ) → length (of_box now who) ≡ length (of_box old who)
  pub waiting : (l : ℕ) (ends : LaneEnds) → i ≤ l → slice_get lanes l ≡ Some ends → inbox_at now ends ≡ inbox_at old ends

-- a lane that comes later still leads to an inbox
pub still_leads : (lanes : List LaneEnds) (i : ℕ) (old now : List (List (List Tagged))) (taken : List (List Tagged)) (ends : LaneEnds) → LeadApart lanes old → IsEmptying lanes i old now taken → slice_get lanes i ≡ Some ends
    → ends.to_end < length (of_box now ends.to)
still_leads lanes i old now taken ends leads so_far at = subst (λ (n : ℕ). ends.to_end < n) (sym (so_far.lengths ends.to)) (leads.there i ends at)

-- so one lane more is taken
pub emptying_more : (lanes : List LaneEnds) (i : ℕ) (old now new : List (List (List Tagged))) (taken more : List (List Tagged)) (ends : LaneEnds) → LeadApart lanes old → IsEmptying lanes i old now taken → slice_get lanes i ≡ Some ends
    → more ≡ taken ++ inbox_at now ends ∷ [] → new ≡ without_inbox now ends → IsEmptying lanes (i + 1) old new more
emptying_more lanes i old now new taken more ends leads so_far at pushed is =
    let there = still_leads lanes i old now taken ends leads so_far at in
    record {
      taken_so_far =
          pushed ∙ (ap (λ (l : List Tagged). taken ++ l ∷ []) (so_far.waiting i ends (omega arith) at)
          ∙ (ap (λ (l : List (List Tagged)). l ++ inbox_at old ends ∷ []) so_far.taken_so_far ∙ sym (map_more_at (inbox_at old) lanes i ends at)));
      lengths = λ who. ap (λ (l : List (List (List Tagged))). length (of_box l who)) is ∙ (lengths_left now ends who there (cases_eq who ends.to) ∙ so_far.lengths who);
      waiting = λ l other above found.
          let off : l ≢ i = omega arith in
          ap (λ (b : List (List (List Tagged))). inbox_at b other) is
          ∙ (other_left now ends other there (λ boxes e. off (leads.apart l i other ends found at boxes e)) (cases_eq other.to ends.to) ∙ so_far.waiting l other (omega arith) found);
    }

-- after the last all were
pub emptied : (lanes : List LaneEnds) (i : ℕ) (old now : List (List (List Tagged))) (taken : List (List Tagged)) → length lanes ≤ i → IsEmptying lanes i old now taken → taken ≡ map (inbox_at old) lanes
emptied lanes i old now taken past so_far = so_far.taken_so_far ∙ ap (λ (l : List LaneEnds). map (inbox_at old) l) (take_all i lanes past)

-- ---- the boxes of a team

-- the inboxes of a member
abbrev pub inboxes_in : Member → List (List Tagged)
inboxes_in member = member.worker.inboxes

-- the first boxes were taken apart, and the rest are left
pub record IsTakingApart (members : List Member) (boxes : List BoxState) (own : List (List (List Tagged))) (rest : List Member) : Type 0 where
  pub parts : boxes ++ parts_of rest ≡ parts_of members
  pub inboxes : own ++ map inboxes_in rest ≡ map inboxes_in members

-- a list that moves over, one element more
one_less : {X : Type 0} (f : Member → X) (xs more all : List X) (x : X) (member : Member) (rest left : List Member) → rest ≡ member ∷ left → more ≡ xs ++ x ∷ [] → x ≡ f member → xs ++ map f rest ≡ all → more ++ map f left ≡ all
one_less {X} f xs more all x member rest left is pushed here whole =
    ap (λ (l : List X). l ++ map f left) pushed
    ∙ (append_assoc xs (x ∷ []) (map f left) ∙ (ap (λ (y : X). xs ++ y ∷ map f left) here ∙ (ap (λ (l : List Member). xs ++ map f l) (sym is) ∙ whole)))

-- so one box more is taken apart
pub apart_more : (members rest left : List Member) (member : Member) (boxes more : List BoxState) (own longer : List (List (List Tagged))) (part : BoxState) (lists : List (List Tagged)) → IsTakingApart members boxes own rest
    → rest ≡ member ∷ left → more ≡ boxes ++ part ∷ [] → longer ≡ own ++ lists ∷ [] → part ≡ member.worker.part → lists ≡ member.worker.inboxes → IsTakingApart members more longer left
apart_more members rest left member boxes more own longer part lists so_far is pushed added here there = record {
  parts = one_less (λ (s : Member). s.worker.part) boxes more (parts_of members) part member rest left is pushed here so_far.parts;
  inboxes = one_less inboxes_in own longer (map inboxes_in members) lists member rest left is added there so_far.inboxes;
}

-- all were
pub all_apart : (members : List Member) (boxes : List BoxState) (own : List (List (List Tagged))) (rest : List Member) → IsTakingApart members boxes own rest → rest ≡ [] → (boxes ≡ parts_of members) × (own ≡ map inboxes_in members)
all_apart members boxes own rest so_far none = (
  sym (append-nil boxes) ∙ (ap (λ (l : List Member). boxes ++ parts_of l) (sym none) ∙ so_far.parts),
  sym (append-nil own) ∙ (ap (λ (l : List Member). own ++ map inboxes_in l) (sym none) ∙ so_far.inboxes),
)

-- ---- what a team keeps of its lanes

-- the channel end to which a lane leads has its number
end_of : (channels : List ChannelState) (members : List Member) (lanes : List LaneEnds) (ends : List (List ℕ)) (l : ℕ) (e : LaneEnds) → StandForWorld channels members lanes ends → slice_get lanes l ≡ Some e → at_end ends e.to e.to_end ≡ Some l
end_of channels members lanes ends l e stand at =
    let is : ends_of_lane lanes l ≡ e = get_or_from_slice_get lanes l e no_lane_ends at in
    subst (λ (x : LaneEnds). at_end ends x.to x.to_end ≡ Some l) is (stand.laid_out.numbered.taking l (slice_get_within lanes l e at))

-- the member to which a lane leads
member_at : (channels : List ChannelState) (members : List Member) (lanes : List LaneEnds) (ends : List (List ℕ)) (l : ℕ) (e : LaneEnds) → StandForWorld channels members lanes ends → slice_get lanes l ≡ Some e
    → (member : Member) × (slice_get members e.to ≡ Some member) × (e.to_end < length (inboxes_in member))
member_at channels members lanes ends l e stand at =
    let below = slice_get_within lanes l e at in
    let is = get_or_from_slice_get lanes l e no_lane_ends at in
    let tied = stand.laid_out.tied l below in
    let within : e.to < length members = subst (λ (x : LaneEnds). x.to < length members) is tied.taker in
    let here = there_is members e.to within in
    let names : in_names members e.to ≡ in_names_of here.0 = at_some in_names_of members e.to here.0 [] here.1 in
    let taking : e.to_end < length (in_names members e.to) = subst (λ (x : LaneEnds). x.to_end < length (in_names members x.to)) is tied.taking in
    let long = (stand.ready e.to here.0 here.1).shaped.inboxes in
    (here.0, here.1, omega (arith, taking, ap (λ (r : List RingName). length r) names, length-map here.0.worker.ins.items in_ring, long))

-- lanes lead to inboxes, no two of them to one
pub leads_apart : (channels : List ChannelState) (members : List Member) (lanes : List LaneEnds) (ends : List (List ℕ)) (own : List (List (List Tagged))) → StandForWorld channels members lanes ends → own ≡ map inboxes_in members → LeadApart lanes own
leads_apart channels members lanes ends own stand is = subst (λ (o : List (List (List Tagged))). LeadApart lanes o) (sym is) (record {
  there = λ l e at.
      let here = member_at channels members lanes ends l e stand at in
      subst (λ (o : List (List Tagged)). e.to_end < length o) (sym (at_some inboxes_in members e.to here.0 [] here.1)) here.2;
  apart = λ l k one other at found boxes same.
      let a : at_end ends one.to one.to_end ≡ Some l = end_of channels members lanes ends l one stand at in
      let b : at_end ends other.to other.to_end ≡ Some k = end_of channels members lanes ends k other stand found in
      let c : at_end ends other.to other.to_end ≡ Some l = subst (λ (n : ℕ). at_end ends other.to n ≡ Some l) same (subst (λ (n : ℕ). at_end ends n one.to_end ≡ Some l) boxes a) in
      one_of (at_end ends other.to other.to_end) l k c b;
})

-- what is under way waits in the inboxes
pub all_lanes : (channels : List ChannelState) (members : List Member) (lanes : List LaneEnds) (ends : List (List ℕ)) (own : List (List (List Tagged))) → StandForWorld channels members lanes ends → own ≡ map inboxes_in members
    → map (inbox_at own) lanes ≡ lanes_of members lanes
all_lanes channels members lanes ends own stand is =
    ap (λ (o : List (List (List Tagged))). map (inbox_at o) lanes) is
    ∙ map_same (inbox_at (map inboxes_in members)) (λ (e : LaneEnds). (taking_end members e).inbox) lanes (λ l e at.
    let here = member_at channels members lanes ends l e stand at in
    ap (λ (o : List (List Tagged)). box_of o e.to_end) (at_some inboxes_in members e.to here.0 [] here.1)
    ∙ sym (ap (λ (t : InEnd). t.inbox) (taking_there members e here.0 here.1)))

-- so what was taken apart is the world
pub world_left : (channels : List ChannelState) (members : List Member) (lanes : List LaneEnds) (ends : List (List ℕ)) (boxes : List BoxState) (own : List (List (List Tagged))) (taken : List (Queue Tagged)) → StandForWorld channels members lanes ends
    → boxes ≡ parts_of members → own ≡ map inboxes_in members → items_of taken ≡ map (inbox_at own) lanes → world_with boxes channels taken ≡ world_of channels members lanes
world_left channels members lanes ends boxes own taken stand parts is took = world_by channels boxes (parts_of members) (items_of taken) (lanes_of members lanes) parts (took ∙ all_lanes channels members lanes ends own stand is)

-- ---- what the calls answer

-- the inboxes of one box more
pub pushed_inboxes : (boxes more : List (Vec (Queue Tagged) Global)) (lanes : Vec (Queue Tagged) Global) → more ≡ boxes ++ lanes ∷ [] → inboxes_of more ≡ inboxes_of boxes ++ items_of lanes.items ∷ []
pushed_inboxes boxes more lanes is = ap (λ (l : List (Vec (Queue Tagged) Global)). inboxes_of l) is ∙ map_push (λ (v : Vec (Queue Tagged) Global). items_of v.items) boxes lanes
