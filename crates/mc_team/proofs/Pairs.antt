-- What carrying between two members does to a list of members.
use Rattle.std.proofs.Common.{◌≡◌, ◌≢◌, ◌⊎◌, inl, inr, ℕ, ◌<◌, ◌++◌, List, [], Some, map, length, Result, Ok, Err, OnOk, slice_get, slice_index_or, slice_set, refl, sym, ◌∙◌, ap, subst, arith}
use Rattle.std.proofs.lemmas.List.{length-map}
use Rattle.mc_team.specs.declared.layout.LaneEnds.{LaneEnds}
use Rattle.mc_port.specs.Ends.{RingName, in_ring, out_ring}
use Rattle.mc_team.specs.declared.member.Member.{Member}
use Rattle.mc_team.specs.Carries.{AreReady, IsCarriedTo, IsCarriedWithin, IsLaneCarried, KeepsBoxes, KeepsMember, rest_of}
use Rattle.mc_team.specs.Ends.{IsTied, in_names, in_view, no_in, no_out, out_names, out_view}
use Rattle.mc_team.proofs.Lists.{at_some, get_other, map_kept, one_of, same_or_not, set_apart, set_both, set_here, set_other}
use Rattle.mc_worker.specs.Account.{in_at, out_at}
use Rattle.mc_worker.specs.Carrying.{IsBroughtIn}
use Rattle.mc_worker.specs.Ends.{InEnd, OutEnd}
use Rattle.mc_worker.specs.Ready.{IsReady}

-- a box's channel ends where it takes
abbrev pub Ins : Member → ℕ → InEnd
Ins member = in_at member.worker

-- and where it gives
abbrev pub Outs : Member → ℕ → OutEnd
Outs member = out_at member.worker

-- they are those of its worker
pub here_in : (members : List Member) (who end : ℕ) (member : Member) → slice_get members who ≡ Some member → in_view members who end ≡ in_at member.worker end
here_in members who end member e = ap (λ (g : ℕ → InEnd). g end) (at_some Ins members who member (λ (t : ℕ). no_in) e)

-- on both sides
pub here_out : (members : List Member) (who end : ℕ) (member : Member) → slice_get members who ≡ Some member → out_view members who end ≡ out_at member.worker end
here_out members who end member e = ap (λ (g : ℕ → OutEnd). g end) (at_some Outs members who member (λ (t : ℕ). no_out) e)

else_in : (members : List Member) (i who end : ℕ) (member : Member) → who ≢ i → in_view (slice_set members i member) who end ≡ in_view members who end
else_in members i who end member off = ap (λ (g : ℕ → InEnd). g end) (set_other Ins members i who member (λ (t : ℕ). no_in) off)

else_out : (members : List Member) (i who end : ℕ) (member : Member) → who ≢ i → out_view (slice_set members i member) who end ≡ out_view members who end
else_out members i who end member off = ap (λ (g : ℕ → OutEnd). g end) (set_other Outs members i who member (λ (t : ℕ). no_out) off)

brought_by : (o o1 p p1 : OutEnd) (x x1 y y1 : InEnd) → o1 ≡ o → p1 ≡ p → x1 ≡ x → y1 ≡ y → IsBroughtIn o p x y → IsBroughtIn o1 p1 x1 y1
brought_by o o1 p p1 x x1 y y1 a b c d h = rw (a, b, c, d) h

-- ---- one member changes

-- what the channel ends of a changed member are, where all others are as they were
ins_set : (members : List Member) (i : ℕ) (a a' : Member) (who end : ℕ) → slice_get members i ≡ Some a → (who ≡ i → in_at a'.worker end ≡ in_at a.worker end) → (who ≡ i) ⊎ (who ≢ i)
    → in_view (slice_set members i a') who end ≡ in_view members who end
ins_set members i a a' who end at same (inl is) =
    subst (λ (n : ℕ). in_view (slice_set members i a') n end ≡ in_view members n end) (sym is) (here_in (slice_set members i a') i end a' (set_here members i a a' at) ∙ (same is ∙ sym (here_in members i end a at)))
ins_set members i a a' who end at same (inr off) = else_in members i who end a' off

outs_set : (members : List Member) (i : ℕ) (a a' : Member) (who end : ℕ) → slice_get members i ≡ Some a → (who ≡ i → out_at a'.worker end ≡ out_at a.worker end) → (who ≡ i) ⊎ (who ≢ i)
    → out_view (slice_set members i a') who end ≡ out_view members who end
outs_set members i a a' who end at same (inl is) =
    subst (λ (n : ℕ). out_view (slice_set members i a') n end ≡ out_view members n end) (sym is) (here_out (slice_set members i a') i end a' (set_here members i a a' at) ∙ (same is ∙ sym (here_out members i end a at)))
outs_set members i a a' who end at same (inr off) = else_out members i who end a' off

-- the names of a box's rings, where it takes
abbrev pub in_names_of : Member → List RingName
in_names_of member = map in_ring member.worker.ins.items

-- and where it gives
abbrev pub out_names_of : Member → List RingName
out_names_of member = map out_ring member.worker.outs.items

ready_by : (members : List Member) (i : ℕ) (a new : Member) (who : ℕ) (member : Member) → slice_get members i ≡ Some a → AreReady members → IsReady new.worker → slice_get (slice_set members i new) who ≡ Some member
    → (who ≡ i) ⊎ (who ≢ i) → IsReady member.worker
ready_by members i a new who member here all one at (inl is) =
    subst (λ (s : Member). IsReady s.worker) (one_of (slice_get (slice_set members i new) i) new member (set_here members i a new here) (subst (λ (n : ℕ). slice_get (slice_set members i new) n ≡ Some member) is at)) one
ready_by members i a new who member here all one at (inr off) = all who member (sym (get_other members i who new off) ∙ at)

-- the boxes are kept where one of them changes so
pub keeps_one : (members : List Member) (i : ℕ) (a a' : Member) → slice_get members i ≡ Some a → AreReady members → KeepsMember a a' → KeepsBoxes members (slice_set members i a')
keeps_one members i a a' at ready keeps = record {
  rest = map_kept rest_of members i a a' at keeps.rest;
  in_rings = λ who. ap (λ (l : List (List RingName)). slice_index_or l who []) (map_kept in_names_of members i a a' at keeps.in_rings);
  out_rings = λ who. ap (λ (l : List (List RingName)). slice_index_or l who []) (map_kept out_names_of members i a a' at keeps.out_rings);
  ready = λ who member there. ready_by members i a a' who member at ready keeps.ready there (same_or_not who i);
}

pub keeps_both : (a b c : List Member) → KeepsBoxes a b → KeepsBoxes b c → KeepsBoxes a c
keeps_both a b c p q = record {
  rest = q.rest ∙ p.rest;
  in_rings = λ who. q.in_rings who ∙ p.in_rings who;
  out_rings = λ who. q.out_rings who ∙ p.out_rings who;
  ready = q.ready;
}

-- ---- a lane

-- within one member
pub lane_within : (members : List Member) (ends : LaneEnds) (a a' : Member) → ends.from ≡ ends.to → AreReady members → slice_get members ends.to ≡ Some a → IsCarriedWithin a ends.from_end ends.to_end a'
    → IsLaneCarried members (slice_set members ends.to a') ends
lane_within members ends a a' one ready at q =
    let new : List Member = slice_set members ends.to a' in
    let here : slice_get new ends.to ≡ Some a' = set_here members ends.to a a' at in
    let from : slice_get members ends.from ≡ Some a = subst (λ (n : ℕ). slice_get members n ≡ Some a) (sym one) at in
    let from_here : slice_get new ends.from ≡ Some a' = subst (λ (n : ℕ). slice_get new n ≡ Some a') (sym one) here in
    record {
      lane = brought_by _ _ _ _ _ _ _ _ (here_out members ends.from ends.from_end a from) (here_out new ends.from ends.from_end a' from_here) (here_in members ends.to ends.to_end a at) (here_in new ends.to ends.to_end a' here) q.lane;
      ins = λ who end off. ins_set members ends.to a a' who end at (λ is. q.other_ins end (off is)) (same_or_not who ends.to);
      outs = λ who end off. outs_set members ends.to a a' who end at (λ is. q.other_outs end (off (is ∙ sym one))) (same_or_not who ends.to);
      boxes = keeps_one members ends.to a a' at ready q.keeps;
    }

-- between two
pub lane_between : (members : List Member) (ends : LaneEnds) (a b a' b' : Member) → ends.from ≢ ends.to → AreReady members → slice_get members ends.from ≡ Some a → slice_get members ends.to ≡ Some b
    → IsCarriedTo a b ends.from_end ends.to_end a' b'
    → IsLaneCarried members (slice_set (slice_set members ends.from a') ends.to b') ends
lane_between members ends a b a' b' apart ready at_a at_b q =
    let mid : List Member = slice_set members ends.from a' in
    let new : List Member = slice_set mid ends.to b' in
    let mid_b : slice_get mid ends.to ≡ Some b = get_other members ends.from ends.to a' (λ e. apart (sym e)) ∙ at_b in
    let here_b : slice_get new ends.to ≡ Some b' = set_here mid ends.to b b' mid_b in
    let here_a : slice_get new ends.from ≡ Some a' = get_other mid ends.to ends.from b' apart ∙ set_here members ends.from a a' at_a in
    let first = keeps_one members ends.from a a' at_a ready q.from_keeps in
    record {
      lane = brought_by _ _ _ _ _ _ _ _ (here_out members ends.from ends.from_end a at_a) (here_out new ends.from ends.from_end a' here_a) (here_in members ends.to ends.to_end b at_b) (here_in new ends.to ends.to_end b' here_b) q.lane;
      ins = λ who end off. ins_set mid ends.to b b' who end mid_b (λ is. q.other_ins end (off is)) (same_or_not who ends.to)
          ∙ ins_set members ends.from a a' who end at_a (λ is. q.ins end) (same_or_not who ends.from);
      outs = λ who end off. outs_set mid ends.to b b' who end mid_b (λ is. q.outs end) (same_or_not who ends.to)
          ∙ outs_set members ends.from a a' who end at_a (λ is. q.other_outs end (off is)) (same_or_not who ends.from);
      boxes = keeps_both members mid new first (keeps_one mid ends.to b b' mid_b first.ready q.to_keeps);
    }

-- ---- what the calls answer

pub answer_within : {E : Type 0} (r : Result (Unit {0}) E) (members : List Member) (ends : LaneEnds) (a a' : Member) → ends.from ≡ ends.to → AreReady members → slice_get members ends.to ≡ Some a
    → OnOk r (IsCarriedWithin a ends.from_end ends.to_end a') → OnOk r (IsLaneCarried members (slice_set members ends.to a') ends)
answer_within (Ok done) members ends a a' one ready at q = lane_within members ends a a' one ready at q
answer_within (Err e) members ends a a' one ready at q = q

-- the giving box stands first
pub answer_forward : {E : Type 0} (r : Result (Unit {0}) E) (members front back : List Member) (ends : LaneEnds) (a b a' b' : Member) → ends.from ≢ ends.to → AreReady members → members ≡ front ++ back → length front ≡ ends.to
    → ends.from < length front → 0 < length back → slice_get members ends.from ≡ Some a → slice_get members ends.to ≡ Some b
    → OnOk r (IsCarriedTo a b ends.from_end ends.to_end a' b') → OnOk r (IsLaneCarried members (slice_set front ends.from a' ++ slice_set back 0 b') ends)
answer_forward (Ok done) members front back ends a b a' b' apart ready whole len from_in to_in at_a at_b q =
    subst (λ (new : List Member). IsLaneCarried members new ends) (sym (set_both front back ends.from a' b' from_in to_in ∙ rw (← whole, len) refl)) (lane_between members ends a b a' b' apart ready at_a at_b q)
answer_forward (Err e) members front back ends a b a' b' apart ready whole len from_in to_in at_a at_b q = q

-- the taking box stands first
pub answer_back : {E : Type 0} (r : Result (Unit {0}) E) (members front back : List Member) (ends : LaneEnds) (a b a' b' : Member) → ends.from ≢ ends.to → AreReady members → members ≡ front ++ back → length front ≡ ends.from
    → ends.to < length front → 0 < length back → slice_get members ends.from ≡ Some a → slice_get members ends.to ≡ Some b
    → OnOk r (IsCarriedTo a b ends.from_end ends.to_end a' b') → OnOk r (IsLaneCarried members (slice_set front ends.to b' ++ slice_set back 0 a') ends)
answer_back (Ok done) members front back ends a b a' b' apart ready whole len to_in from_in at_a at_b q =
    subst (λ (new : List Member). IsLaneCarried members new ends) (sym (set_both front back ends.to b' a' to_in from_in ∙ rw (← whole, len) (set_apart members ends.to ends.from b' a' (λ e. apart (sym e)))))
    (lane_between members ends a b a' b' apart ready at_a at_b q)
answer_back (Err e) members front back ends a b a' b' apart ready whole len to_in from_in at_a at_b q = q

-- ---- what the calls ask for

pub giver_there : (members : List Member) (ends : LaneEnds) (a : Member) → IsTied members ends → slice_get members ends.from ≡ Some a → ends.from_end < length a.worker.outs.items
giver_there members ends a tied at =
    let names : out_names members ends.from ≡ map out_ring a.worker.outs.items = at_some out_names_of members ends.from a [] at in
    let within : ends.from_end < length (map out_ring a.worker.outs.items) = subst (λ (l : List RingName). ends.from_end < length l) names tied.giving in
    omega (arith, within, length-map a.worker.outs.items out_ring)
