-- One lane after the other.
use Rattle.std.proofs.Common.{◌≡◌, ◌≢◌, ◌⊎◌, inl, inr, ℕ, ◌+◌, ◌<◌, ◌≤◌, List, Some, length, slice_get, refl, sym, ◌∙◌, ap, subst, arith}
use Rattle.mc_model.specs.Worlds.{far}
use Rattle.mc_port.specs.Ends.{RingName}
use Rattle.mc_team.proofs.Lists.{same_or_not}
use Rattle.mc_team.proofs.MemberLists.{rests_long}
use Rattle.mc_team.proofs.Pairs.{keeps_both}
use Rattle.mc_team.specs.Carries.{AreLanesApart, AreReady, AreTied, CarriesLanes, IsBroughtOn, IsLaneCarried, KeepsBoxes, StaysAtLane}
use Rattle.mc_team.specs.Ends.{giving_end, in_names, out_names, taking_end}
use Rattle.mc_team.specs.Layouts.{AreEnds, at_end, ends_of_lane}
use Rattle.mc_team.specs.declared.layout.LaneEnds.{LaneEnds}
use Rattle.mc_team.specs.declared.member.Member.{Member}
use Rattle.mc_worker.specs.Carrying.{IsBroughtIn}
use Rattle.mc_worker.specs.Ends.{InEnd, OutEnd}

from_still : (a b : OutEnd) (x y : InEnd) (c : OutEnd) (z : InEnd) → b ≡ a → y ≡ x → IsBroughtIn b c y z → IsBroughtIn a c x z
from_still a b x y c z same_out same_in q = subst (λ (o : OutEnd). IsBroughtIn o c x z) same_out (subst (λ (i : InEnd). IsBroughtIn b c i z) same_in q)

to_still : (a b : OutEnd) (x y : InEnd) (c : OutEnd) (z : InEnd) → c ≡ b → z ≡ y → IsBroughtIn a b x y → IsBroughtIn a c x z
to_still a b x y c z same_out same_in q = subst (λ (o : OutEnd). IsBroughtIn a o x z) (sym same_out) (subst (λ (i : InEnd). IsBroughtIn a b x i) (sym same_in) q)

-- ---- lanes are apart

pub far_twice : (lane : ℕ) → far (far lane) ≡ lane
far_twice lane = grind arith

pub takers_apart : (lanes : List LaneEnds) (ends : List (List ℕ)) (l k : ℕ) → AreEnds lanes ends → l < length lanes → k < length lanes → l ≢ k
    → (ends_of_lane lanes l).to ≡ (ends_of_lane lanes k).to → (ends_of_lane lanes l).to_end ≢ (ends_of_lane lanes k).to_end
takers_apart lanes ends l k are below_l below_k off boxes same =
    let one : at_end ends (ends_of_lane lanes k).to (ends_of_lane lanes k).to_end ≡ Some l =
    subst (λ (e : ℕ). at_end ends (ends_of_lane lanes k).to e ≡ Some l) same (subst (λ (w : ℕ). at_end ends w (ends_of_lane lanes l).to_end ≡ Some l) boxes (are.taking l below_l)) in
    let both = are.taking k below_k in
    off (cc)

pub givers_apart : (lanes : List LaneEnds) (ends : List (List ℕ)) (l k : ℕ) → AreEnds lanes ends → l < length lanes → k < length lanes → l ≢ k
    → (ends_of_lane lanes l).from ≡ (ends_of_lane lanes k).from → (ends_of_lane lanes l).from_end ≢ (ends_of_lane lanes k).from_end
givers_apart lanes ends l k are below_l below_k off boxes same =
    let one : at_end ends (ends_of_lane lanes k).from (ends_of_lane lanes k).from_end ≡ Some (far l) =
    subst (λ (e : ℕ). at_end ends (ends_of_lane lanes k).from e ≡ Some (far l)) same (subst (λ (w : ℕ). at_end ends w (ends_of_lane lanes l).from_end ≡ Some (far l)) boxes (are.giving l below_l)) in
    let both = are.giving k below_k in
    let fars : far l ≡ far k = cc in
    off (sym (far_twice l) ∙ (ap far fars ∙ far_twice k))

pub lanes_apart : (lanes : List LaneEnds) (ends : List (List ℕ)) → AreEnds lanes ends → AreLanesApart lanes
lanes_apart lanes ends are l k below_l below_k off = (takers_apart lanes ends l k are below_l below_k off, givers_apart lanes ends l k are below_l below_k off)

-- another lane stays as it was
other_lane : (lanes : List LaneEnds) (k l : ℕ) (old new : List Member) → AreLanesApart lanes → k < length lanes → l < length lanes → IsLaneCarried old new (ends_of_lane lanes k) → l ≢ k
    → StaysAtLane old new (ends_of_lane lanes l)
other_lane lanes k l old new apart below_k below_l carried off =
    let both = apart l k below_l below_k off in (
      carried.ins (ends_of_lane lanes l).to (ends_of_lane lanes l).to_end both.0,
      carried.outs (ends_of_lane lanes l).from (ends_of_lane lanes l).from_end both.1,
    )

-- ---- one lane more

pub brought_more : (first old new : List Member) (ends : LaneEnds) → IsBroughtOn first old ends → StaysAtLane old new ends → IsBroughtOn first new ends
brought_more first old new ends p q = to_still (giving_end first ends) (giving_end old ends) (taking_end first ends) (taking_end old ends) (giving_end new ends) (taking_end new ends) q.1 q.0 p

pub stays_more : (first old new : List Member) (ends : LaneEnds) → StaysAtLane first old ends → StaysAtLane old new ends → StaysAtLane first new ends
stays_more first old new ends p q = (q.0 ∙ p.0, q.1 ∙ p.1)

-- the first so many lanes were carried, and the others are as they were
pub record CarriesFirst (count : ℕ) (lanes : List LaneEnds) (old new : List Member) : Type 0 where
  pub carried : (lane : ℕ) → lane < length lanes → lane < count → IsBroughtOn old new (ends_of_lane lanes lane)
  pub others : (lane : ℕ) → lane < length lanes → count ≤ lane → StaysAtLane old new (ends_of_lane lanes lane)
  pub boxes : KeepsBoxes old new

pub carries_none : (lanes : List LaneEnds) (members : List Member) → AreReady members → CarriesFirst 0 lanes members members
carries_none lanes members ready = record {
  carried = λ lane below none. absurd (omega arith);
  others = λ lane below past. (refl, refl);
  boxes = record { rest = refl; in_rings = λ who. refl; out_rings = λ who. refl; ready = ready };
}

carried_by : (count : ℕ) (lanes : List LaneEnds) (first old new : List Member) (lane : ℕ) → AreLanesApart lanes → count < length lanes → CarriesFirst count lanes first old → IsLaneCarried old new (ends_of_lane lanes count)
    → lane < length lanes → lane < count + 1 → (lane ≡ count) ⊎ (lane ≢ count) → IsBroughtOn first new (ends_of_lane lanes lane)
carried_by count lanes first old new lane apart here p q below low (inl is) =
    let ends : LaneEnds = ends_of_lane lanes count in
    let stays = p.others count here (omega arith) in
    subst (λ (n : ℕ). IsBroughtOn first new (ends_of_lane lanes n)) (sym is)
    (from_still (giving_end first ends) (giving_end old ends) (taking_end first ends) (taking_end old ends) (giving_end new ends) (taking_end new ends) stays.1 stays.0 q.lane)
carried_by count lanes first old new lane apart here p q below low (inr off) =
    brought_more first old new (ends_of_lane lanes lane) (p.carried lane below (let other : lane ≢ count = off in omega arith)) (other_lane lanes count lane old new apart here below q off)

pub carries_one : (count : ℕ) (lanes : List LaneEnds) (first old new : List Member) → AreLanesApart lanes → count < length lanes → CarriesFirst count lanes first old → IsLaneCarried old new (ends_of_lane lanes count)
    → CarriesFirst (count + 1) lanes first new
carries_one count lanes first old new apart here p q = record {
  carried = λ lane below low. carried_by count lanes first old new lane apart here p q below low (same_or_not lane count);
  others = λ lane below past.
      let off : lane ≢ count = omega arith in
      stays_more first old new (ends_of_lane lanes lane) (p.others lane below (omega arith)) (other_lane lanes count lane old new apart here below q off);
  boxes = keeps_both first old new p.boxes q.boxes;
}

-- and so all of them
pub carries_all : (count : ℕ) (lanes : List LaneEnds) (old new : List Member) → length lanes ≤ count → CarriesFirst count lanes old new → CarriesLanes lanes old new
carries_all count lanes old new past p = record { carried = λ lane below. p.carried lane below (omega arith); boxes = p.boxes }

-- ---- what stays tied

-- lanes are tied where there are as many boxes, with the same rings
pub tied_by : (lanes : List LaneEnds) (old new : List Member) → length new ≡ length old → ((who : ℕ) → in_names new who ≡ in_names old who) → ((who : ℕ) → out_names new who ≡ out_names old who) → AreTied old lanes → AreTied new lanes
tied_by lanes old new long ins outs tied lane below =
    let ends : LaneEnds = ends_of_lane lanes lane in
    let was = tied lane below in
    record {
      taker = subst (λ (n : ℕ). ends.to < n) (sym long) was.taker;
      giver = subst (λ (n : ℕ). ends.from < n) (sym long) was.giver;
      taking = subst (λ (l : List RingName). ends.to_end < length l) (sym (ins ends.to)) was.taking;
      giving = subst (λ (l : List RingName). ends.from_end < length l) (sym (outs ends.from)) was.giving;
      ring = ap (λ (l : List RingName). slice_get l ends.from_end) (outs ends.from) ∙ (was.ring ∙ ap (λ (l : List RingName). slice_get l ends.to_end) (sym (ins ends.to)));
    }

pub tied_kept : (lanes : List LaneEnds) (old new : List Member) → KeepsBoxes old new → AreTied old lanes → AreTied new lanes
tied_kept lanes old new keeps tied = tied_by lanes old new (rests_long old new keeps.rest) keeps.in_rings keeps.out_rings tied
