-- All channels that cross are carried over, one after another.
use Rattle.std.proofs.Common.{◌≡◌, ◌≢◌, inl, inr, ◌<◌, ◌≤◌, ◌+◌, ◌++◌, ℕ, Some, List, length, slice_get, slice_set, Result, Ok, Err, OnOk, refl, ap, sym, ◌∙◌, subst, arith}
use Rattle.std.proofs.lemmas.Option.{slice_get_within}
use Rattle.mc_part.specs.Carrying.{CanCarry, CarriesAll}
use Rattle.mc_part.specs.Phases.{EachChanged}
use Rattle.mc_part.specs.declared.part.Part.{Part}
use Rattle.mc_part.specs.declared.part_run.PartRun.{PartRun}
use Rattle.mc_divided.specs.Networks.{IsEnd}
use Rattle.mc_divided.specs.Phasing.{AreApart, CarriesAt, CarriesBoth, CarriesOver, HasCrossed, IsCarryable, IsSameAt, IsSameRun, StaysAt}
use Rattle.mc_divided.specs.declared.network.Crossing.{Crossing}
use Rattle.mc_divided.proofs.CarriedLanes.{HasBoth, as_before, as_before_on, both_carried, can_still, carried_later, carried_sooner, same_at, same_at_on}
use Rattle.mc_divided.proofs.Lists.{get_other, one_of, same_or_not, set_apart, set_both, set_here, set_length, there_at}

-- ---- runs

pub same_run : (a : PartRun) → IsSameRun a a
same_run a = record { part = as_before a.part; active = refl; ended = refl; known = refl }

pub same_run_on : (a b c : PartRun) → IsSameRun a b → IsSameRun b c → IsSameRun a c
same_run_on a b c one two = record { part = as_before_on a.part b.part c.part one.part two.part; active = two.active ∙ one.active; ended = two.ended ∙ one.ended; known = two.known ∙ one.known }

pub runs_both : (from from_2 to to_2 : PartRun) (s t : ℕ) (from_1 to_1 : Part) → CarriesAll from.part from_1 to.part to_1 s t → CarriesAll to_1 to_2.part from_1 from_2.part t s
    → from_2 ≡ record from { part = from_2.part } → to_2 ≡ record to { part = to_2.part } → CarriesBoth from from_2 to to_2 s t
runs_both from from_2 to to_2 s t from_1 to_1 one two kept kept_2 =
    let both : HasBoth from.part from_2.part to.part to_2.part s t = both_carried from.part from_1 from_2.part to.part to_1 to_2.part s t one two in
    record {
      there = both.there;
      back = both.back;
      from_same = record { part = both.from_same; active = ap (λ (r : PartRun). r.active) kept; ended = ap (λ (r : PartRun). r.ended) kept; known = ap (λ (r : PartRun). r.known) kept };
      to_same = record { part = both.to_same; active = ap (λ (r : PartRun). r.active) kept_2; ended = ap (λ (r : PartRun). r.ended) kept_2; known = ap (λ (r : PartRun). r.known) kept_2 };
      from_others = both.from_others;
      to_others = both.to_others;
    }

-- ---- lists

pub each_none : (runs : List PartRun) → EachChanged IsSameRun runs runs
each_none runs = record { count = refl; each = λ i a b p q. subst (λ (r : PartRun). IsSameRun a r) (one_of (slice_get runs i) a b p q) (same_run a) }

pub stays_none : (runs : List PartRun) (part port : ℕ) → StaysAt runs runs part port
stays_none runs part port a b p q = subst (λ (r : PartRun). IsSameAt a.part r.part port) (one_of (slice_get runs part) a b p q) (same_at a.part port)

-- the element between
mid_at : (old mid : List PartRun) (i : ℕ) (a d : PartRun) → length mid ≡ length old → slice_get old i ≡ Some a → (b : PartRun) × (slice_get mid i ≡ Some b)
mid_at old mid i a d count there =
    let inside : i < length mid = subst (λ (n : ℕ). i < n) (sym count) (slice_get_within old i a there) in
    (_, there_at mid i d inside)

pub each_on : (old mid new : List PartRun) → EachChanged IsSameRun old mid → EachChanged IsSameRun mid new → EachChanged IsSameRun old new
each_on old mid new one two = record {
  count = two.count ∙ one.count;
  each = λ i a c p q. let b = mid_at old mid i a a one.count p in same_run_on a b.0 c (one.each i a b.0 p b.1) (two.each i b.0 c b.1 q);
}

pub stays_on : (old mid new : List PartRun) (part port : ℕ) → length mid ≡ length old → StaysAt old mid part port → StaysAt mid new part port → StaysAt old new part port
stays_on old mid new part port count one two a c p q =
    let b = mid_at old mid part a a count p in
    same_at_on a.part b.0.part c.part port (one a b.0 p b.1) (two b.0 c b.1 q)

-- ---- two of them change

two_set : (runs : List PartRun) (crossing : Crossing) (a b a_2 b_2 : PartRun) → crossing.from ≢ crossing.to → slice_get runs crossing.from ≡ Some a → slice_get runs crossing.to ≡ Some b
    → CarriesBoth a a_2 b b_2 crossing.from_port crossing.to_port → CarriesAt runs (slice_set (slice_set runs crossing.from a_2) crossing.to b_2) crossing
two_set runs crossing a b a_2 b_2 apart there there_2 both = record {
  same = record { count = set_length mid crossing.to b_2 ∙ set_length runs crossing.from a_2; each = each };
  crossed = record {
    from = a;
    to = b;
    from_2 = a_2;
    to_2 = b_2;
    from_there = there;
    to_there = there_2;
    from_there_2 = new_from;
    to_there_2 = new_to;
    there = both.there;
    back = both.back;
  };
  others = others;
}
  where
    mid : List PartRun
    mid = slice_set runs crossing.from a_2

    new : List PartRun
    new = slice_set mid crossing.to b_2

    mid_to : slice_get mid crossing.to ≡ Some b
    mid_to = get_other runs crossing.from crossing.to a_2 (λ same. apart (sym same)) ∙ there_2

    new_to : slice_get new crossing.to ≡ Some b_2
    new_to = set_here mid crossing.to b b_2 mid_to

    new_from : slice_get new crossing.from ≡ Some a_2
    new_from = get_other mid crossing.to crossing.from b_2 apart ∙ set_here runs crossing.from a a_2 there

    -- at any place: one of the two, or the same
    new_other : (i : ℕ) → i ≢ crossing.from → i ≢ crossing.to → slice_get new i ≡ slice_get runs i
    new_other i off off_2 = get_other mid crossing.to i b_2 off_2 ∙ get_other runs crossing.from i a_2 off

    -- what holds of the two and of what stays holds of each
    at_each : (P : PartRun → PartRun → Type 0) (i : ℕ) (x y : PartRun) → (i ≡ crossing.from → P a a_2) → (i ≡ crossing.to → P b b_2) → P x x → slice_get runs i ≡ Some x → slice_get new i ≡ Some y → P x y
    at_each P i x y one two none p q = elim (same_or_not i crossing.from) [
      | inl is ↦
          subst (λ (r : PartRun). P r y) (one_of (slice_get runs i) a x (ap (λ (n : ℕ). slice_get runs n) is ∙ there) p)
          (subst (λ (r : PartRun). P a r) (one_of (slice_get new i) a_2 y (ap (λ (n : ℕ). slice_get new n) is ∙ new_from) q) (one is))
      | inr off ↦ elim (same_or_not i crossing.to) [
        | inl is ↦
            subst (λ (r : PartRun). P r y) (one_of (slice_get runs i) b x (ap (λ (n : ℕ). slice_get runs n) is ∙ there_2) p)
            (subst (λ (r : PartRun). P b r) (one_of (slice_get new i) b_2 y (ap (λ (n : ℕ). slice_get new n) is ∙ new_to) q) (two is))
        | inr off_2 ↦ subst (λ (r : PartRun). P x r) (one_of (slice_get new i) x y (new_other i off off_2 ∙ p) q) none
      ]
    ]

    each : (i : ℕ) (x y : PartRun) → slice_get runs i ≡ Some x → slice_get new i ≡ Some y → IsSameRun x y
    each i x y p q = at_each IsSameRun i x y (λ is. both.from_same) (λ is. both.to_same) (same_run x) p q

    others : (part port : ℕ) → (IsEnd crossing part port → ⊥) → StaysAt runs new part port
    others part port off x y p q =
        at_each (λ (r s : PartRun). IsSameAt r.part s.part port) part x y
        (λ is. both.from_others port (λ same. off (inl (sym is, sym same))))
        (λ is. both.to_others port (λ same. off (inr (sym is, sym same))))
        (same_at x.part port) p q

-- ---- what the calls answer

-- the first part stands first
pub answer_forward : {X E : Type 0} (r : Result X E) (runs front back : List PartRun) (crossing : Crossing) (a b a_2 b_2 : PartRun) → crossing.from ≢ crossing.to → runs ≡ front ++ back → length front ≡ crossing.to → crossing.from < length front → 0 < length back
    → slice_get runs crossing.from ≡ Some a → slice_get runs crossing.to ≡ Some b
    → OnOk r (CarriesBoth a a_2 b b_2 crossing.from_port crossing.to_port) → OnOk r (CarriesAt runs (slice_set front crossing.from a_2 ++ slice_set back 0 b_2) crossing)
answer_forward (Ok done) runs front back crossing a b a_2 b_2 apart whole len from_in to_in there there_2 both =
    subst (λ (new : List PartRun). CarriesAt runs new crossing) (sym (set_both front back crossing.from a_2 b_2 from_in to_in ∙ rw (← whole, len) refl)) (two_set runs crossing a b a_2 b_2 apart there there_2 both)
answer_forward (Err e) runs front back crossing a b a_2 b_2 apart whole len from_in to_in there there_2 both = both

-- the second one does
pub answer_back : {X E : Type 0} (r : Result X E) (runs front back : List PartRun) (crossing : Crossing) (a b a_2 b_2 : PartRun) → crossing.from ≢ crossing.to → runs ≡ front ++ back → length front ≡ crossing.from → crossing.to < length front → 0 < length back
    → slice_get runs crossing.from ≡ Some a → slice_get runs crossing.to ≡ Some b
    → OnOk r (CarriesBoth a a_2 b b_2 crossing.from_port crossing.to_port) → OnOk r (CarriesAt runs (slice_set front crossing.to b_2 ++ slice_set back 0 a_2) crossing)
answer_back (Ok done) runs front back crossing a b a_2 b_2 apart whole len to_in from_in there there_2 both =
    subst (λ (new : List PartRun). CarriesAt runs new crossing) (sym (set_both front back crossing.to b_2 a_2 to_in from_in ∙ rw (← whole, len) (set_apart runs crossing.to crossing.from b_2 a_2 (λ same. apart (sym same)))))
    (two_set runs crossing a b a_2 b_2 apart there there_2 both)
answer_back (Err e) runs front back crossing a b a_2 b_2 apart whole len to_in from_in there there_2 both = both

-- ---- the loop

-- the first so many are carried over, and all else is as it was
pub record CarriedSoFar (crossings : List Crossing) (k : ℕ) (old now : List PartRun) : Type 0 where
  pub same : EachChanged IsSameRun old now
  pub crossed : (i : ℕ) (crossing : Crossing) → i < k → slice_get crossings i ≡ Some crossing → HasCrossed old now crossing
  pub others : (part port : ℕ) → ((i : ℕ) (crossing : Crossing) → i < k → slice_get crossings i ≡ Some crossing → IsEnd crossing part port → ⊥) → StaysAt old now part port

pub none_carried : (crossings : List Crossing) (runs : List PartRun) → CarriedSoFar crossings 0 runs runs
none_carried crossings runs = record {
  same = each_none runs;
  crossed = λ i crossing below there. absurd (omega (arith, below));
  others = λ part port none. stays_none runs part port;
}

-- where a crossing was carried, at ends that stay
pub crossed_later : (old mid new : List PartRun) (crossing : Crossing) → length new ≡ length mid → HasCrossed old mid crossing → StaysAt mid new crossing.from crossing.from_port → StaysAt mid new crossing.to crossing.to_port → HasCrossed old new crossing
crossed_later old mid new crossing count crossed stays stays_2 =
    let a = mid_at mid new crossing.from crossed.from_2 crossed.from_2 count crossed.from_there_2 in
    let b = mid_at mid new crossing.to crossed.to_2 crossed.to_2 count crossed.to_there_2 in
    let one = stays crossed.from_2 a.0 crossed.from_there_2 a.1 in
    let two = stays_2 crossed.to_2 b.0 crossed.to_there_2 b.1 in
    record {
      from = crossed.from;
      to = crossed.to;
      from_2 = a.0;
      to_2 = b.0;
      from_there = crossed.from_there;
      to_there = crossed.to_there;
      from_there_2 = a.1;
      to_there_2 = b.1;
      there = carried_later crossed.from.part crossed.from_2.part a.0.part crossed.to.part crossed.to_2.part b.0.part crossing.from_port crossing.to_port crossed.there one two;
      back = carried_later crossed.to.part crossed.to_2.part b.0.part crossed.from.part crossed.from_2.part a.0.part crossing.to_port crossing.from_port crossed.back two one;
    }

-- the element before
old_at : (old mid : List PartRun) (i : ℕ) (b : PartRun) → length mid ≡ length old → slice_get mid i ≡ Some b → (a : PartRun) × (slice_get old i ≡ Some a)
old_at old mid i b count there = mid_at mid old i b b (sym count) there

crossed_sooner : (old mid new : List PartRun) (crossing : Crossing) → length mid ≡ length old → HasCrossed mid new crossing → StaysAt old mid crossing.from crossing.from_port → StaysAt old mid crossing.to crossing.to_port → HasCrossed old new crossing
crossed_sooner old mid new crossing count crossed stays stays_2 =
    let a = old_at old mid crossing.from crossed.from count crossed.from_there in
    let b = old_at old mid crossing.to crossed.to count crossed.to_there in
    let one = stays a.0 crossed.from a.1 crossed.from_there in
    let two = stays_2 b.0 crossed.to b.1 crossed.to_there in
    record {
      from = a.0;
      to = b.0;
      from_2 = crossed.from_2;
      to_2 = crossed.to_2;
      from_there = a.1;
      to_there = b.1;
      from_there_2 = crossed.from_there_2;
      to_there_2 = crossed.to_there_2;
      there = carried_sooner a.0.part crossed.from.part crossed.from_2.part b.0.part crossed.to.part crossed.to_2.part crossing.from_port crossing.to_port one two crossed.there;
      back = carried_sooner b.0.part crossed.to.part crossed.to_2.part a.0.part crossed.from.part crossed.from_2.part crossing.to_port crossing.from_port two one crossed.back;
    }

-- no end of one crossing is one of another
apart_ends : (crossings : List Crossing) (i j part port : ℕ) (one two : Crossing) → AreApart crossings → slice_get crossings i ≡ Some one → slice_get crossings j ≡ Some two → i ≢ j → IsEnd one part port → IsEnd two part port → ⊥
apart_ends crossings i j part port one two apart there there_2 off end end_2 = off (apart.once i j one two part port there there_2 end end_2)

pub next_carried : (crossings : List Crossing) (k : ℕ) (crossing : Crossing) (old mid new : List PartRun) → AreApart crossings → slice_get crossings k ≡ Some crossing → CarriedSoFar crossings k old mid → CarriesAt mid new crossing
    → CarriedSoFar crossings (k + 1) old new
next_carried crossings k crossing old mid new apart there so_far next = record {
  same = each_on old mid new so_far.same next.same;
  crossed = crossed;
  others = λ part port none. stays_on old mid new part port so_far.same.count (so_far.others part port (λ i other below at. none i other (omega (arith, below)) at)) (next.others part port (none k crossing (omega arith) there));
}
  where
    stays_next : (i : ℕ) (other : Crossing) (part port : ℕ) → i ≢ k → slice_get crossings i ≡ Some other → IsEnd other part port → StaysAt mid new part port
    stays_next i other part port off at end = next.others part port (λ end_2. apart_ends crossings i k part port other crossing apart at there off end end_2)

    stays_before : (part port : ℕ) → IsEnd crossing part port → StaysAt old mid part port
    stays_before part port end = so_far.others part port (λ i other below at end_2. apart_ends crossings i k part port other crossing apart at there (λ same. absurd (omega (arith, same, below))) end_2 end)

    crossed : (i : ℕ) (other : Crossing) → i < k + 1 → slice_get crossings i ≡ Some other → HasCrossed old new other
    crossed i other below at = elim (same_or_not i k) [
      | inl is ↦
          let same : crossing ≡ other = one_of (slice_get crossings i) crossing other (ap (λ (n : ℕ). slice_get crossings n) is ∙ there) at in
          subst (λ (x : Crossing). HasCrossed old new x) same
          (crossed_sooner old mid new crossing so_far.same.count next.crossed (stays_before crossing.from crossing.from_port (inl (refl, refl))) (stays_before crossing.to crossing.to_port (inr (refl, refl))))
      | inr off ↦
          crossed_later old mid new other next.same.count (so_far.crossed i other (omega (arith, below, off)) at) (stays_next i other other.from other.from_port off at (inl (refl, refl))) (stays_next i other other.to other.to_port off at (inr (refl, refl)))
    ]

pub all_carried : (crossings : List Crossing) (k : ℕ) (old now : List PartRun) → length crossings ≤ k → CarriedSoFar crossings k old now → CarriesOver crossings old now
all_carried crossings k old now past so_far = record {
  same = so_far.same;
  crossed = λ i crossing there. so_far.crossed i crossing (let below = slice_get_within crossings i crossing there in omega (arith, below, past)) there;
  others = λ part port none. so_far.others part port (λ i crossing below there. none i crossing there);
}

-- the next one can be carried still
pub still_carryable : (crossings : List Crossing) (k : ℕ) (crossing : Crossing) (old now : List PartRun) → AreApart crossings → slice_get crossings k ≡ Some crossing → CarriedSoFar crossings k old now → IsCarryable old crossing → IsCarryable now crossing
still_carryable crossings k crossing old now apart there so_far can =
    let count = so_far.same.count in
    let a = mid_at old now crossing.from can.from can.from count can.from_there in
    let b = mid_at old now crossing.to can.to can.to count can.to_there in
    let one = stays_before crossing.from crossing.from_port (inl (refl, refl)) can.from a.0 can.from_there a.1 in
    let two = stays_before crossing.to crossing.to_port (inr (refl, refl)) can.to b.0 can.to_there b.1 in
    let same = so_far.same.each crossing.from can.from a.0 can.from_there a.1 in
    let same_2 = so_far.same.each crossing.to can.to b.0 can.to_there b.1 in
    record {
      from = a.0;
      to = b.0;
      from_there = a.1;
      to_there = b.1;
      there = can_still can.from.part a.0.part can.to.part b.0.part crossing.from_port crossing.to_port can.there same.part.channels same_2.part.channels one two;
      back = can_still can.to.part b.0.part can.from.part a.0.part crossing.to_port crossing.from_port can.back same_2.part.channels same.part.channels two one;
    }
  where
    stays_before : (part port : ℕ) → IsEnd crossing part port → StaysAt old now part port
    stays_before part port end = so_far.others part port (λ i other below at end_2. apart_ends crossings i k part port other crossing apart at there (λ same. absurd (omega (arith, same, below))) end_2 end)

-- ---- what the calls ask for

pub can_of : (runs : List PartRun) (crossing : Crossing) (a b : PartRun) → IsCarryable runs crossing → slice_get runs crossing.from ≡ Some a → slice_get runs crossing.to ≡ Some b → CanCarry a.part b.part crossing.from_port crossing.to_port
can_of runs crossing a b can there there_2 =
    subst (λ (r : PartRun). CanCarry r.part b.part crossing.from_port crossing.to_port) (one_of (slice_get runs crossing.from) can.from a can.from_there there)
    (subst (λ (r : PartRun). CanCarry can.from.part r.part crossing.from_port crossing.to_port) (one_of (slice_get runs crossing.to) can.to b can.to_there there_2) can.there)

pub can_of_back : (runs : List PartRun) (crossing : Crossing) (a b : PartRun) → IsCarryable runs crossing → slice_get runs crossing.from ≡ Some a → slice_get runs crossing.to ≡ Some b → CanCarry b.part a.part crossing.to_port crossing.from_port
can_of_back runs crossing a b can there there_2 =
    subst (λ (r : PartRun). CanCarry b.part r.part crossing.to_port crossing.from_port) (one_of (slice_get runs crossing.from) can.from a can.from_there there)
    (subst (λ (r : PartRun). CanCarry r.part can.from.part crossing.to_port crossing.from_port) (one_of (slice_get runs crossing.to) can.to b can.to_there there_2) can.back)
