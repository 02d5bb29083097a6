-- A box more gets its member, with what a layout has for it.
use Rattle.std.proofs.Common.{◌≡◌, ◌≢◌, ◌⊎◌, inl, inr, ℕ, ◌+◌, ◌*◌, ◌<◌, ◌≤◌, ◌++◌, List, [], ◌∷◌, Some, length, map, slice_get, slice_index_or, slice_set, sym, ◌∙◌, ap, subst, arith, append_assoc}
use Rattle.std.proofs.lemmas.Bool.{cases_eq}
use Rattle.std.proofs.lemmas.List.{get_or-set_other, get_or_at, length-append, length-map, length-set, map_push}
use Rattle.std.proofs.lemmas.Option.{slice_get_within}
use Rattle.mc_box.specs.Boxes.{BoxState, no_box}
use Rattle.mc_team.proofs.ByPlace.{map_same}
use Rattle.mc_team.specs.Made.{AreApart, CanMake, IsNewMember, IsTakenFor, LeavesOthers}
use Rattle.mc_team.specs.Layouts.{AreEnds, IsLayoutOf, at_end, inner_lists, of_box}
use Rattle.mc_team.specs.declared.layout.LaneEnds.{LaneEnds}
use Rattle.mc_team.specs.declared.layout.TeamLayout.{TeamLayout}
use Rattle.mc_model.specs.Worlds.{ChannelState}
use Rattle.mc_port.specs.declared.ends.InPort.{InPort}
use Rattle.mc_port.specs.declared.ends.OutPort.{OutPort}
use Rattle.mc_team.proofs.Lists.{get_before, get_behind}
use Rattle.mc_team.specs.declared.member.Member.{Member}
use Rattle.mc_signal.specs.declared.Tagged.{Tagged}
use Rattle.mc_team.proofs.Lists.{one_of}
use Rattle.mc_team.specs.Ends.{parts_of}
use Rattle.mc_worker.specs.Boxes.{box_of}
use Rattle.mc_worker.specs.Places.{AreAtEnds, ArePlaces}
use Rattle.mc_worker.specs.declared.limit.TheConstants.{END_LIMIT}

-- ---- what is left

-- what a layout and lanes have for the boxes from one on is what they had first
pub record IsLeft (first : TeamLayout) (under_way : List (List Tagged)) (who : ℕ) (layout : TeamLayout) (now : List (List Tagged)) : Type 0 where
  pub lanes : layout.lanes ≡ first.lanes
  pub ends : layout.ends ≡ first.ends
  pub places_count : length (inner_lists layout.places.items) ≡ length (inner_lists first.places.items)
  pub ins_count : length (inner_lists layout.ins.items) ≡ length (inner_lists first.ins.items)
  pub outs_count : length (inner_lists layout.outs.items) ≡ length (inner_lists first.outs.items)
  pub places : (k : ℕ) → who ≤ k → of_box (inner_lists layout.places.items) k ≡ of_box (inner_lists first.places.items) k
  pub ins : (k : ℕ) → who ≤ k → of_box (inner_lists layout.ins.items) k ≡ of_box (inner_lists first.ins.items) k
  pub outs : (k : ℕ) → who ≤ k → of_box (inner_lists layout.outs.items) k ≡ of_box (inner_lists first.outs.items) k
  pub lane_count : length now ≡ length under_way
  pub waiting : (k end lane : ℕ) → who ≤ k → at_end (inner_lists first.ends.items) k end ≡ Some lane → box_of now lane ≡ box_of under_way lane

-- one list was taken
count_kept : {A : Type 0} (old new first : List (List A)) (who : ℕ) → new ≡ slice_set old who [] → length old ≡ length first → length new ≡ length first
count_kept old new first who is long = ap (λ l. length l) is ∙ (length-set old who [] ∙ long)

-- a list that was emptied is that of an earlier box
other_kept : {A : Type 0} (old new first : List (List A)) (who k : ℕ) → new ≡ slice_set old who [] → ((j : ℕ) → who ≤ j → of_box old j ≡ of_box first j) → who + 1 ≤ k → of_box new k ≡ of_box first k
other_kept old new first who k is same above =
    let off : k ≢ who = omega arith in
    ap (λ l. of_box l k) is ∙ (get_or-set_other old who k [] [] off ∙ same k (omega arith))

-- a lane leads to one box
one_taker : (lanes : List LaneEnds) (ends : List (List ℕ)) (who k i j lane : ℕ) → AreEnds lanes ends → at_end ends who i ≡ Some lane → at_end ends k j ≡ Some lane → (who ≡ k) × (i ≡ j)
one_taker lanes ends who k i j lane are here there =
    let a = are.taker who i lane here in let b = are.taker k j lane there in (sym a.0 ∙ b.0, sym a.1 ∙ b.1)

-- what was taken for a box leaves the later ones what they had
pub left_more : (first old new : TeamLayout) (under_way now more : List (List Tagged)) (who : ℕ) → AreEnds first.lanes.items (inner_lists first.ends.items) → IsLeft first under_way who old now
    → IsTakenFor who old new → LeavesOthers (of_box (inner_lists old.ends.items) who) now more → IsLeft first under_way (who + 1) new more
left_more first old new under_way now more who are left taken leaves = record {
  lanes = taken.lanes ∙ left.lanes;
  ends = taken.ends ∙ left.ends;
  places_count = count_kept _ _ _ who taken.places left.places_count;
  ins_count = count_kept _ _ _ who taken.ins left.ins_count;
  outs_count = count_kept _ _ _ who taken.outs left.outs_count;
  places = λ k above. other_kept _ _ _ who k taken.places left.places above;
  ins = λ k above. other_kept _ _ _ who k taken.ins left.ins above;
  outs = λ k above. other_kept _ _ _ who k taken.outs left.outs above;
  lane_count = leaves.count ∙ left.lane_count;
  waiting = λ k end lane above at.
      leaves.others lane (λ i e.
      let here : at_end (inner_lists first.ends.items) who i ≡ Some lane = ap (λ v. slice_get (of_box (inner_lists v.items) who) i) (sym left.ends) ∙ e in
      let same = one_taker first.lanes.items (inner_lists first.ends.items) who k i end lane are here at in
      let one : who ≡ k = same.0 in
      absurd (omega arith))
      ∙ left.waiting k end lane (omega arith) at;
}

-- ---- a member

-- a member with what is left is one with what there was first
pub made_first : (first layout : TeamLayout) (under_way now : List (List Tagged)) (who : ℕ) (member : Member) → IsLeft first under_way who layout now → IsNewMember layout now who member → IsNewMember first under_way who member
made_first first layout under_way now who member left made = record {
  place = made.place ∙ left.places who (omega arith);
  ins = made.ins ∙ left.ins who (omega arith);
  outs = made.outs ∙ left.outs who (omega arith);
  inboxes =
      made.inboxes
      ∙ (ap (λ v. map (box_of now) (of_box (inner_lists v.items) who)) left.ends
      ∙ map_same (box_of now) (box_of under_way) (of_box (inner_lists first.ends.items) who) (λ end lane at. left.waiting who end lane (omega arith) at));
  outboxes = made.outboxes;
  stimuli = made.stimuli;
  log = made.log;
  shifts = made.shifts;
  ready = made.ready;
}

-- the lanes at a box's ends differ
ends_apart : (lanes : List LaneEnds) (ends : List (List ℕ)) (who : ℕ) → AreEnds lanes ends → AreApart (of_box ends who)
ends_apart lanes ends who are i j lane here there = (one_taker lanes ends who who i j lane are here there).1

-- what is left has all that the next box wants
pub can_make : (boxes : List BoxState) (channels : List ChannelState) (first layout : TeamLayout) (under_way now : List (List Tagged)) (lanes slots who : ℕ) → IsLayoutOf boxes channels first → IsLeft first under_way who layout now
    → who < length boxes → slots ≡ length (slice_index_or boxes who no_box).slots → lanes ≡ length now → length under_way ≡ 2 * length channels → CanMake layout lanes slots who
can_make boxes channels first layout under_way now lanes slots who lay left within few count long =
    let whole = lay.whole in
    let places : of_box (inner_lists layout.places.items) who ≡ of_box (inner_lists first.places.items) who = left.places who (omega arith) in
    let ins : of_box (inner_lists layout.ins.items) who ≡ of_box (inner_lists first.ins.items) who = left.ins who (omega arith) in
    let outs : of_box (inner_lists layout.outs.items) who ≡ of_box (inner_lists first.outs.items) who = left.outs who (omega arith) in
    let ends : of_box (inner_lists layout.ends.items) who ≡ of_box (inner_lists first.ends.items) who = ap (λ v. of_box (inner_lists v.items) who) left.ends in
    let as_many : length (of_box (inner_lists layout.ins.items) who) ≡ length (of_box (inner_lists first.ends.items) who) = ap (λ (l : List InPort). length l) ins ∙ whole.in_count who in
    record {
      in_ends = subst (λ v. who < length v.items) (sym left.ends) (subst (λ (n : ℕ). who < n) (sym whole.box_count) within);
      in_places = subst (λ (n : ℕ). who < n) (sym (sym (length-map layout.places.items (λ v. v.items)) ∙ (left.places_count ∙ whole.bare.count))) within;
      in_ins = subst (λ (n : ℕ). who < n) (sym (sym (length-map layout.ins.items (λ v. v.items)) ∙ (left.ins_count ∙ (length-map first.ins.items (λ v. v.items) ∙ whole.in_boxes)))) within;
      in_outs = subst (λ (n : ℕ). who < n) (sym (sym (length-map layout.outs.items (λ v. v.items)) ∙ (left.outs_count ∙ (length-map first.outs.items (λ v. v.items) ∙ whole.out_boxes)))) within;
      places = subst ArePlaces (sym places) (lay.places who);
      long = ap (λ (l : List (ℕ × ℕ)). length l) places ∙ (whole.bare.long who ∙ sym few);
      at_ends = subst (λ (n : ℕ). AreAtEnds n (of_box (inner_lists layout.places.items) who)) (sym as_many) (subst (λ (l : List (ℕ × ℕ)). AreAtEnds (length (of_box (inner_lists first.ends.items) who)) l) (sym places) (lay.at_ends who));
      outs = ap (λ (l : List OutPort). length l) outs ∙ (whole.out_count who ∙ sym as_many);
      ends = ap (λ (l : List ℕ). length l) ends ∙ sym as_many;
      few = subst (λ (n : ℕ). n ≤ END_LIMIT) (sym as_many) (lay.few who);
      apart = subst AreApart (sym ends) (ends_apart first.lanes.items (inner_lists first.ends.items) who whole.ends);
      there = λ end lane at.
          let low = whole.ends.there who end lane (ap (λ (l : List ℕ). slice_get l end) (sym ends) ∙ at) in
          omega (arith, low, whole.lane_count, left.lane_count, count, long);
    }

-- ---- all members

-- the first boxes have their members, and the rest are left
pub record IsMaking (first : TeamLayout) (under_way : List (List Tagged)) (boxes : List BoxState) (members : List Member) (rest : List BoxState) (layout : TeamLayout) (now : List (List Tagged)) : Type 0 where
  pub all : parts_of members ++ rest ≡ boxes
  pub left : IsLeft first under_way (length members) layout now
  pub made : (who : ℕ) (member : Member) → slice_get members who ≡ Some member → IsNewMember first under_way who member

-- the member that comes last is made, and so are those before it
last_made : (first : TeamLayout) (under_way : List (List Tagged)) (members : List Member) (member : Member) (who : ℕ) (s : Member) → ((k : ℕ) (t : Member) → slice_get members k ≡ Some t → IsNewMember first under_way k t)
    → IsNewMember first under_way (length members) member → slice_get (members ++ member ∷ []) who ≡ Some s → (who ≡ length members) ⊎ (who ≢ length members) → IsNewMember first under_way who s
last_made first under_way members member who s all last at (inl is) =
    let here : slice_get (members ++ member ∷ []) who ≡ Some member = get_behind members (member ∷ []) who 0 (omega arith) in
    let same : member ≡ s = one_of _ member s here at in
    subst (λ (t : Member). IsNewMember first under_way who t) same (subst (λ (n : ℕ). IsNewMember first under_way n member) (sym is) last)
last_made first under_way members member who s all last at (inr off) =
    let within = slice_get_within (members ++ member ∷ []) who s at in
    let long = length-append members (member ∷ []) in
    let below : who < length members = omega (arith, within, long) in
    all who s (sym (get_before members (member ∷ []) who below) ∙ at)

-- the boxes of the members, and those that are left, are all of them
seam : (members : List Member) (member : Member) (rest left boxes : List BoxState) (part : BoxState) → rest ≡ part ∷ left → member.worker.part ≡ part → parts_of members ++ rest ≡ boxes → parts_of (members ++ member ∷ []) ++ left ≡ boxes
seam members member rest left boxes part is here all =
    ap (λ (l : List BoxState). l ++ left) (map_push (λ (s : Member). s.worker.part) members member ∙ ap (λ (b : BoxState). parts_of members ++ b ∷ []) here)
    ∙ (append_assoc (parts_of members) (part ∷ []) left ∙ (ap (λ (l : List BoxState). parts_of members ++ l) (sym is) ∙ all))

-- so one member more leaves one box less
pub making_more : (first old new : TeamLayout) (under_way now more : List (List Tagged)) (boxes : List BoxState) (members longer : List Member) (member : Member) (rest left : List BoxState) (part : BoxState)
    → AreEnds first.lanes.items (inner_lists first.ends.items) → IsMaking first under_way boxes members rest old now → rest ≡ part ∷ left → member.worker.part ≡ part → IsNewMember old now (length members) member
    → IsTakenFor (length members) old new → LeavesOthers (of_box (inner_lists old.ends.items) (length members)) now more → longer ≡ members ++ member ∷ [] → IsMaking first under_way boxes longer left new more
making_more first old new under_way now more boxes members longer member rest left part are so_far is here made taken leaves pushed =
    let long : length (members ++ member ∷ []) ≡ length members + 1 = length-append members (member ∷ []) in
    subst (λ (l : List Member). IsMaking first under_way boxes l left new more) (sym pushed)
    (record {
      all = seam members member rest left boxes part is here so_far.all;
      left = subst (λ (n : ℕ). IsLeft first under_way n new more) (sym long) (left_more first old new under_way now more (length members) are so_far.left taken leaves);
      made = λ who s at. last_made first under_way members member who s so_far.made (made_first first old under_way now (length members) member so_far.left made) at (cases_eq who (length members));
    })

-- the next box
pub next_part : (members : List Member) (rest left boxes : List BoxState) (part : BoxState) → rest ≡ part ∷ left → parts_of members ++ rest ≡ boxes
    → (length members < length boxes) × (slice_index_or boxes (length members) no_box ≡ part)
next_part members rest left boxes part is all =
    let whole : parts_of members ++ part ∷ left ≡ boxes = ap (λ (l : List BoxState). parts_of members ++ l) (sym is) ∙ all in
    let long = length-append (parts_of members) (part ∷ left) in
    let parts = length-map members (λ (s : Member). s.worker.part) in
    let same : length (parts_of members ++ part ∷ left) ≡ length boxes = ap (λ (l : List BoxState). length l) whole in (
      omega (arith, long, parts, same),
      ap (λ (l : List BoxState). slice_index_or l (length members) no_box) (sym whole) ∙ get_or_at (parts_of members) part left no_box (length members) parts,
    )
