-- The boxes of parts, and where each stands.
use Rattle.std.proofs.Common.{◌≡◌, ◌<◌, ◌≤◌, ◌+◌, Bool, true, false, cond, filter, ℕ, zero, suc, Some, List, [], ◌∷◌, length, get_or, take, take_all, refl, ap, sym, ◌∙◌, subst, arith, true≢false, eq-eqb, eqb-true}
use Rattle.std.proofs.lemmas.List.FromFn.{get_or-map-range_with_len}
use Rattle.std.proofs.lemmas.Option.{get_or_from_slice_get, none-some, same_Some, slice_get-get_or, slice_get_within}
use Rattle.std.specs.List.{AllByRecursion, slice_get}
use Rattle.mc_merge.specs.Wholes.{numbers_in}
use Rattle.mc_part.specs.DivisionLaws.{DivisionsAreHomes, FirstPartsAreDivided}
use Rattle.mc_part.specs.Divisions.{home_at, is_part, members, members_from, part_numbers, part_of, rank}

pub first_parts_are_divided : FirstPartsAreDivided
first_parts_are_divided world assigned each = record { each = each; channels = λ part. refl; boxes = λ part. refl; lanes = λ part. refl }

-- ---- a box among those of its part

first_is : (b : Bool) (first : ℕ) (rest : List ℕ) → b ≡ true → slice_get (cond b (first ∷ rest) rest) 0 ≡ Some (first + 0)
first_is true first rest passes = let same : first ≡ first + 0 = omega arith in ap (λ (n : ℕ). Some n) same
first_is false first rest passes = absurd (true≢false (sym passes))

later_is : (b : Bool) (first part n : ℕ) (rest before : List ℕ) → slice_get rest (length before) ≡ Some n → slice_get (cond b (first ∷ rest) rest) (length (cond b (part ∷ before) before)) ≡ Some n
later_is true first part n rest before is = is
later_is false first part n rest before is = is

member_found : (assigned : List ℕ) (part first who : ℕ) → slice_get assigned who ≡ Some part → slice_get (members_from part first assigned) (rank (is_part part) who assigned) ≡ Some (first + who)
member_found [] part first who is = absurd (none-some part is)
member_found (other ∷ assigned) part first zero is = first_is (is_part part other) first (members_from part (first + 1) assigned) (eq-eqb other part (same_Some other part is))
member_found (other ∷ assigned) part first (suc who) is =
    let next : (first + 1) + who ≡ first + suc who = omega arith in
    later_is (is_part part other) first other (first + suc who) (members_from part (first + 1) assigned) (filter (is_part part) (take who assigned))
    (member_found assigned part (first + 1) who is ∙ ap (λ (n : ℕ). Some n) next)

record Member (assigned : List ℕ) (part first k n : ℕ) : Type 0 where
  who : ℕ
  number : n ≡ first + who
  is : slice_get assigned who ≡ Some part
  rank_is : rank (is_part part) who assigned ≡ k

next_member : (first n who : ℕ) → n ≡ (first + 1) + who → n ≡ first + suc who
next_member first n who is = omega arith

member_by : (b : Bool) (other : ℕ) (assigned : List ℕ) (part first k n : ℕ) → is_part part other ≡ b
    → ((j : ℕ) → slice_get (members_from part (first + 1) assigned) j ≡ Some n → Member assigned part (first + 1) j n)
    → slice_get (cond b (first ∷ members_from part (first + 1) assigned) (members_from part (first + 1) assigned)) k ≡ Some n → Member (other ∷ assigned) part first k n
member_by true other assigned part first zero n b_is rest is = record {
  who = 0;
  number = let same : first ≡ n = same_Some first n is in let sum : n ≡ first + 0 = omega arith in sum;
  is = ap (λ (m : ℕ). Some m) (eqb-true other part b_is);
  rank_is = refl;
}
member_by true other assigned part first (suc k) n b_is rest is =
    let found : Member assigned part (first + 1) k n = rest k is in
    record {
      who = suc found.who;
      number = next_member first n found.who found.number;
      is = found.is;
      rank_is = ap (λ (b : Bool). length (cond b (other ∷ filter (is_part part) (take found.who assigned)) (filter (is_part part) (take found.who assigned)))) b_is ∙ ap suc found.rank_is;
    }
member_by false other assigned part first k n b_is rest is =
    let found : Member assigned part (first + 1) k n = rest k is in
    record {
      who = suc found.who;
      number = next_member first n found.who found.number;
      is = found.is;
      rank_is = ap (λ (b : Bool). length (cond b (other ∷ filter (is_part part) (take found.who assigned)) (filter (is_part part) (take found.who assigned)))) b_is ∙ found.rank_is;
    }

member_back : (assigned : List ℕ) (part first k n : ℕ) → slice_get (members_from part first assigned) k ≡ Some n → Member assigned part first k n
member_back [] part first k n is = absurd (none-some n is)
member_back (other ∷ assigned) part first k n is = member_by (is_part part other) other assigned part first k n refl (λ j there. member_back assigned part (first + 1) j n there) is

count_by_part : (b : Bool) (first other : ℕ) (rest passing : List ℕ) → length rest ≡ length passing → length (cond b (first ∷ rest) rest) ≡ length (cond b (other ∷ passing) passing)
count_by_part true first other rest passing same = ap suc same
count_by_part false first other rest passing same = same

pub member_count : (assigned : List ℕ) (part first : ℕ) → length (members_from part first assigned) ≡ length (filter (is_part part) assigned)
member_count [] part first = refl
member_count (other ∷ assigned) part first = count_by_part (is_part part other) first other (members_from part (first + 1) assigned) (filter (is_part part) assigned) (member_count assigned part (first + 1))

-- ---- by homes

pub part_is : (assigned : List ℕ) (who : ℕ) → who < length assigned → slice_get assigned who ≡ Some (part_of assigned who)
part_is assigned who inside = slice_get-get_or assigned who 0 inside

pub member_at : (assigned : List ℕ) (part who : ℕ) → who < length assigned → part_of assigned who ≡ part → slice_get (members assigned part) (rank (is_part part) who assigned) ≡ Some who
member_at assigned part who inside is =
    let same : 0 + who ≡ who = omega arith in
    member_found assigned part 0 who (part_is assigned who inside ∙ ap (λ (n : ℕ). Some n) is) ∙ ap (λ (n : ℕ). Some n) same

-- where a box stands there are so many boxes of its part
pub home_inside : (assigned : List ℕ) (who : ℕ) → who < length assigned → (home_at assigned who).1 < length (members assigned (part_of assigned who))
home_inside assigned who inside = slice_get_within (members assigned (part_of assigned who)) (home_at assigned who).1 who (member_at assigned (part_of assigned who) who inside refl)

pub home_is : (assigned : List ℕ) (part who at : ℕ) → part_of assigned who ≡ part → rank (is_part part) who assigned ≡ at → home_at assigned who ≡ (part, at)
home_is assigned part who at is rank_is = ap (λ (p : ℕ). (p, rank (is_part p) who assigned)) is ∙ ap (λ (n : ℕ). (part, n)) rank_is

pub record IsMember (assigned : List ℕ) (part at who : ℕ) : Type 0 where
  pub inside : who < length assigned
  pub part_is : part_of assigned who ≡ part
  pub rank_is : rank (is_part part) who assigned ≡ at
  pub home : home_at assigned who ≡ (part, at)

pub member_is : (assigned : List ℕ) (part at who : ℕ) → slice_get (members assigned part) at ≡ Some who → IsMember assigned part at who
member_is assigned part at who is =
    let found : Member assigned part 0 at who = member_back assigned part 0 at who is in
    let same : found.who ≡ who = (let number : who ≡ 0 + found.who = found.number in omega arith) in
    let there : slice_get assigned who ≡ Some part = subst (λ (n : ℕ). slice_get assigned n ≡ Some part) same found.is in
    let rank_is : rank (is_part part) who assigned ≡ at = subst (λ (n : ℕ). rank (is_part part) n assigned ≡ at) same found.rank_is in
    let of : part_of assigned who ≡ part = get_or_from_slice_get assigned who part 0 there in
    record {
      inside = slice_get_within assigned who part there;
      part_is = of;
      rank_is = rank_is;
      home = home_is assigned part who at of rank_is;
    }

-- the box at a number of a part
pub member_here : (assigned : List ℕ) (part at : ℕ) → at < length (members assigned part) → IsMember assigned part at (get_or (members assigned part) at 0)
member_here assigned part at inside = member_is assigned part at (get_or (members assigned part) at 0) (slice_get-get_or (members assigned part) at 0 inside)

-- two boxes don't stand in one place
pub home_apart : (assigned : List ℕ) (who other : ℕ) → who < length assigned → other < length assigned → home_at assigned who ≡ home_at assigned other → who ≡ other
home_apart assigned who other one two same =
    same_Some who other
    (sym (member_at assigned (part_of assigned who) who one refl)
    ∙ (ap (λ (home : ℕ × ℕ). slice_get (members assigned home.0) home.1) same ∙ member_at assigned (part_of assigned other) other two refl))

-- what is no box stands past the last one of its part
pub home_outside : (assigned : List ℕ) (who : ℕ) → length assigned ≤ who → length (members assigned (part_of assigned who)) ≡ (home_at assigned who).1
home_outside assigned who outside =
    member_count assigned (part_of assigned who) 0
    ∙ ap (λ (l : List ℕ). length (filter (is_part (part_of assigned who)) l)) (sym (take_all who assigned outside))

-- ---- the law

number_is : (assigned : List ℕ) (count part at : ℕ) → part < count → numbers_in (part_numbers assigned count) part at ≡ get_or (members assigned part) at 0
number_is assigned count part at below =
    let start : 0 + part ≡ part = omega arith in
    ap (λ (l : List ℕ). get_or l at 0) (get_or-map-range_with_len (members assigned) 0 count part part [] below start)

below_all : (assigned : List ℕ) (count who part : ℕ) → AllByRecursion (λ (part : ℕ). part < count) assigned → slice_get assigned who ≡ Some part → part < count
below_all [] count who part all is = absurd (none-some part is)
below_all (other ∷ assigned) count zero part all is = subst (λ (n : ℕ). n < count) (same_Some other part is) all.0
below_all (other ∷ assigned) count (suc who) part all is = below_all assigned count who part all.1 is

part_below : (assigned : List ℕ) (count who : ℕ) → AllByRecursion (λ (part : ℕ). part < count) assigned → who < length assigned → part_of assigned who < count
part_below assigned count who all inside = below_all assigned count who (part_of assigned who) all (part_is assigned who inside)

member_number : (assigned : List ℕ) (count part at : ℕ) → AllByRecursion (λ (part : ℕ). part < count) assigned → at < length (members assigned part) → IsMember assigned part at (numbers_in (part_numbers assigned count) part at)
member_number assigned count part at all inside =
    let member : IsMember assigned part at (get_or (members assigned part) at 0) = member_here assigned part at inside in
    let below : part < count = subst (λ (n : ℕ). n < count) member.part_is (part_below assigned count (get_or (members assigned part) at 0) all member.inside) in
    subst (λ (n : ℕ). IsMember assigned part at n) (sym (number_is assigned count part at below)) member

pub divisions_are_homes : DivisionsAreHomes
divisions_are_homes assigned count parts all boxes known = record {
  back = λ who inside.
      number_is assigned count (part_of assigned who) (home_at assigned who).1 (part_below assigned count who all inside)
      ∙ get_or_from_slice_get (members assigned (part_of assigned who)) (home_at assigned who).1 who 0 (member_at assigned (part_of assigned who) who inside refl);
  there = λ part at inside. (member_number assigned count part at all (subst (λ (n : ℕ). at < n) (boxes part) inside)).home;
  inside = λ part at inside. (member_number assigned count part at all (subst (λ (n : ℕ). at < n) (boxes part) inside)).inside;
  known = known;
}
