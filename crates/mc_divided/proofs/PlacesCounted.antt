-- Channels by part, counted as they come.
use Rattle.std.proofs.Common.{◌≡◌, ◌<◌, ◌≤◌, ◌+◌, ◌^◌, ◌⊎◌, ◌&&◌, ◌==◌, not, inl, inr, if◌then◌else◌, All, Bool, true, false, ℕ, zero, suc, List, [], ◌∷◌, filter, length, get_or, set, take, take_all, replicate, refl, ap, ap₂, sym, ◌∙◌, subst, arith, eq-eqb, ne_eqb, true≢false, length-set, get_or-set_same, get_or-set_other}
use Rattle.std.proofs.lemmas.Bool.{cases_eq}
use Rattle.std.proofs.lemmas.List.{get_or-replicate, length-replicate}
use Rattle.mc_part.specs.Divisions.{is_crossing, is_inner, is_part, part_of, place_in, rank}
use Rattle.mc_merge.specs.Lanes.{absent_channel}
use Rattle.mc_part.specs.DividedParts.{HasBoxes}
use Rattle.mc_model.specs.Worlds.{ChannelState, channel_number_limit}
use Rattle.mc_divided.specs.Whole.{AreCounted, AreRanks, end_part, inner_base, no_base}

-- 1 where it is so, and else 0
pub one_if : Bool → ℕ
one_if true = 1
one_if false = 0

one_true : one_if true ≡ 1
unfolding one_if
one_true = refl

one_false : one_if false ≡ 0
unfolding one_if
one_false = refl

one_is : (b : Bool) (k : ℕ) → one_if b ≡ 1 + k → b ≡ true
unfolding one_if
one_is true k is = refl
one_is false k is = absurd (omega arith)

-- ---- ranks

-- one more of a list
rank_step : {A : Type 0} (test : A → Bool) (xs : List A) (n : ℕ) (d : A) → n < length xs
    → rank test (suc n) xs ≡ rank test n xs + one_if (test (get_or xs n d))
unfolding one_if
rank_step test [] n d below = absurd (omega arith)
rank_step {A} test (x ∷ xs) zero d below = first (test x) where
  first : (b : Bool) → length (if b then x ∷ [] else []) ≡ 0 + one_if b
  first true = refl
  first false = refl
rank_step {A} test (x ∷ xs) (suc n) d below = later (test x) (rank_step test xs n d (omega arith)) where
  later : (b : Bool)
      → length (filter test (take (suc n) xs)) ≡ length (filter test (take n xs)) + one_if (test (get_or xs n d))
      → length (if b then x ∷ filter test (take (suc n) xs) else filter test (take (suc n) xs))
      ≡ length (if b then x ∷ filter test (take n xs) else filter test (take n xs)) + one_if (test (get_or xs n d))
  later true more = omega arith
  later false more = more

pub rank_more : {A : Type 0} (test : A → Bool) (xs : List A) (n : ℕ) (d : A) → n < length xs
    → rank test (n + 1) xs ≡ rank test n xs + one_if (test (get_or xs n d))
rank_more test xs n d below =
    let next : n + 1 ≡ suc n = omega arith in
    ap (λ (m : ℕ). rank test m xs) next ∙ rank_step test xs n d below

-- no more than the list has
pub filter_few : {A : Type 0} (test : A → Bool) (xs : List A) → length (filter test xs) ≤ length xs
filter_few test [] = omega arith
filter_few {A} test (x ∷ xs) = by (test x) (filter_few test xs) where
  by : (b : Bool) → length (filter test xs) ≤ length xs
      → length (if b then x ∷ filter test xs else filter test xs) ≤ suc (length xs)
  by true less = omega arith
  by false less = omega arith

take_few : {A : Type 0} (n : ℕ) (xs : List A) → length (take n xs) ≤ length xs
take_few zero xs = omega arith
take_few (suc n) [] = omega arith
take_few (suc n) (x ∷ xs) = let less = take_few n xs in omega arith

pub rank_few : {A : Type 0} (test : A → Bool) (n : ℕ) (xs : List A) → rank test n xs ≤ length xs
rank_few test n xs = omega (arith, filter_few test (take n xs), take_few n xs)

pub rank_all : {A : Type 0} (test : A → Bool) (xs : List A) → rank test (length xs) xs ≡ length (filter test xs)
rank_all {A} test xs = ap (λ (l : List A). length (filter test l)) (take_all (length xs) xs (omega arith))

-- ---- counts of ranks

-- where the next channel passes no test
pub none_more : (test : ℕ → ChannelState → Bool) (base : ℕ → ℕ) (channels : List ChannelState) (n : ℕ)
    (counts : List ℕ) → n < length channels
    → ((part : ℕ) → test part (get_or channels n absent_channel) ≡ false)
    → AreRanks test base channels n counts → AreRanks test base channels (n + 1) counts
none_more test base channels n counts below none ranks = record {
  each = λ part there.
      let more = rank_more (test part) channels n absent_channel below in
      let zero_more : one_if (test part (get_or channels n absent_channel)) ≡ 0 =
      ap one_if (none part) ∙ one_false in
      let old = ranks.each part there in
      omega arith;
}

-- what the next channel adds to each count
pub ranks_to : (test : ℕ → ChannelState → Bool) (base : ℕ → ℕ) (channels : List ChannelState) (n : ℕ)
    (counts after : List ℕ) → n < length channels → length after ≡ length counts
    → ((part : ℕ) → part < length counts → get_or after part 0
    ≡ get_or counts part 0 + one_if (test part (get_or channels n absent_channel)))
    → AreRanks test base channels n counts → AreRanks test base channels (n + 1) after
ranks_to test base channels n counts after below same adds ranks = record {
  each = λ part there.
      let more = rank_more (test part) channels n absent_channel below in
      let inside : part < length counts = omega arith in
      let old = ranks.each part inside in
      let added = adds part inside in
      omega arith;
}

-- one count more at a place
raised : (counts : List ℕ) (part k : ℕ) → part < length counts → k < length counts
    → get_or (set counts part (get_or counts part 0 + 1)) k 0 ≡ get_or counts k 0 + one_if (k == part)
raised counts part k there here = elim (cases_eq k part) [
  | inl same ↦
      let one : one_if (k == part) ≡ 1 = ap one_if (eq-eqb k part same) ∙ one_true in
      let at : get_or (set counts part (get_or counts part 0 + 1)) k 0 ≡ get_or counts part 0 + 1 =
      ap (λ (i : ℕ). get_or (set counts part (get_or counts part 0 + 1)) i 0) same
      ∙ get_or-set_same counts part (get_or counts part 0 + 1) 0 there in
      let old : get_or counts k 0 ≡ get_or counts part 0 = ap (λ (i : ℕ). get_or counts i 0) same in
      omega arith
  | inr other ↦
      let none : one_if (k == part) ≡ 0 =
      ap one_if (ne_eqb k part other) ∙ one_false in
      let at : get_or (set counts part (get_or counts part 0 + 1)) k 0 ≡ get_or counts k 0 =
      get_or-set_other counts part k (get_or counts part 0 + 1) 0 other in
      omega arith
]

-- ---- channels

eqb_sym : (a b : ℕ) → (a == b) ≡ (b == a)
eqb_sym a b = elim (cases_eq a b) [
  | inl same ↦ eq-eqb a b same ∙ sym (eq-eqb b a (sym same))
  | inr other ↦ ne_eqb a b other ∙ sym (ne_eqb b a (λ same. other (sym same)))
]

-- one within a part crosses for none, and is an inner one of this part alone
inner_tests : (from to part : ℕ) → from ≡ to
    → ((if is_part part from then not (is_part part to) else is_part part to) ≡ false)
    × ((is_part part from && is_part part to) ≡ (part == from))
inner_tests from to part same = (
  subst (λ (t : ℕ). (if is_part part from then not (is_part part t) else is_part part t) ≡ false) same (no (is_part part from)),
  subst (λ (t : ℕ). (is_part part from && is_part part t) ≡ (part == from)) same
      (both (is_part part from) ∙ eqb_sym from part),
)
  where
    no : (b : Bool) → (if b then not b else b) ≡ false
    no true = refl
    no false = refl

    both : (b : Bool) → (b && b) ≡ b
    both true = refl
    both false = refl

-- one between two parts crosses for both, and is an inner one of none
crossing_tests : (from to part : ℕ) → (from ≡ to → ⊥)
    → (one_if (if is_part part from then not (is_part part to) else is_part part to)
    ≡ one_if (part == from) + one_if (part == to))
    × ((is_part part from && is_part part to) ≡ false)
unfolding one_if
crossing_tests from to part apart = elim (cases_eq part from) [
  | inl one ↦
      let yes : is_part part from ≡ true = eq-eqb from part (sym one) in
      let no : is_part part to ≡ false = ne_eqb to part (λ two. apart (sym one ∙ sym two)) in
      let here : (part == from) ≡ true = eq-eqb part from one in
      let there : (part == to) ≡ false = ne_eqb part to (λ two. apart (sym one ∙ two)) in
      tests_by (is_part part from) (is_part part to) (part == from) (part == to) true false yes no here there refl
  | inr not_one ↦
      let no : is_part part from ≡ false = ne_eqb from part (λ same. not_one (sym same)) in
      let here : (part == from) ≡ false = ne_eqb part from not_one in
      tests_by (is_part part from) (is_part part to) (part == from) (part == to) false (is_part part to) no refl here
      (eqb_sym part to) refl
]
  where
    value : (x y : Bool) → (x && y) ≡ false → one_if (if x then not y else y) ≡ one_if x + one_if y
    value true true both = absurd (true≢false both)
    value true false both = refl
    value false true both = refl
    value false false both = refl

    tests_by : (a b c d : Bool) (x y : Bool) → a ≡ x → b ≡ y → c ≡ x → d ≡ y → (x && y) ≡ false
        → (one_if (if a then not b else b) ≡ one_if c + one_if d) × ((a && b) ≡ false)
    tests_by a b c d x y pa pb pc pd both = (
      ap₂ (λ (p q : Bool). one_if (if p then not q else q)) pa pb
          ∙ (value x y both ∙ sym (ap₂ (λ (p q : Bool). one_if p + one_if q) pc pd)),
      ap₂ (λ (p q : Bool). p && q) pa pb ∙ both,
    )

-- ---- the next channel

pub record AreNext (assigned : List ℕ) (channels : List ChannelState) (n from to : ℕ) : Type 0 where
  pub below : n < length channels
  pub from_is : from ≡ end_part assigned channels n 0
  pub to_is : to ≡ end_part assigned channels n 1

-- so it crosses for none
pub within_counted : (assigned : List ℕ) (channels : List ChannelState) (n from to : ℕ) (crossed : List ℕ)
    → AreNext assigned channels n from to → from ≡ to
    → AreRanks (is_crossing assigned) no_base channels n crossed
    → AreRanks (is_crossing assigned) no_base channels (n + 1) crossed
within_counted assigned channels n from to crossed next same ranks =
    none_more (is_crossing assigned) no_base channels n crossed next.below
    (λ part. (inner_tests (part_of assigned (get_or channels n absent_channel).from)
    (part_of assigned (get_or channels n absent_channel).to) part
    (sym next.from_is ∙ (same ∙ next.to_is))).0)
    ranks

-- between two
pub crossing_counted : (assigned : List ℕ) (channels : List ChannelState) (n from to : ℕ)
    (crossed middle after : List ℕ) → AreNext assigned channels n from to → (from ≡ to → ⊥)
    → from < length crossed → to < length crossed → middle ≡ set crossed from (get_or crossed from 0 + 1)
    → after ≡ set middle to (get_or middle to 0 + 1)
    → AreRanks (is_crossing assigned) no_base channels n crossed
    → AreRanks (is_crossing assigned) no_base channels (n + 1) after
crossing_counted assigned channels n from to crossed middle after next apart one two first second ranks =
    let long : length middle ≡ length crossed = ap length first ∙ length-set crossed from (get_or crossed from 0 + 1) in
    ranks_to (is_crossing assigned) no_base channels n crossed after next.below
    (ap length second ∙ (length-set middle to (get_or middle to 0 + 1) ∙ long))
    (λ part below.
    let in_first : get_or middle part 0 ≡ get_or crossed part 0 + one_if (part == from) =
    ap (λ (l : List ℕ). get_or l part 0) first ∙ raised crossed from part one below in
    let in_second : get_or after part 0 ≡ get_or middle part 0 + one_if (part == to) =
    ap (λ (l : List ℕ). get_or l part 0) second ∙ raised middle to part (omega arith) (omega arith) in
    let test_is = tests part in
    omega arith)
    ranks
  where
    channel : ChannelState
    channel = get_or channels n absent_channel

    tests : (part : ℕ) → one_if (is_crossing assigned part channel)
        ≡ one_if (part == from) + one_if (part == to)
    tests part =
        (crossing_tests (part_of assigned channel.from) (part_of assigned channel.to) part
        (λ same. apart (next.from_is ∙ (same ∙ sym next.to_is)))).0
        ∙ ap₂ (λ (f t : ℕ). one_if (part == f) + one_if (part == t)) (sym next.from_is)
        (sym next.to_is)

pub apart_counted : (assigned : List ℕ) (channels : List ChannelState) (n from to : ℕ) (inner : List ℕ)
    → AreNext assigned channels n from to → (from ≡ to → ⊥)
    → AreRanks (is_inner assigned) (inner_base assigned channels) channels n inner
    → AreRanks (is_inner assigned) (inner_base assigned channels) channels (n + 1) inner
apart_counted assigned channels n from to inner next apart ranks =
    none_more (is_inner assigned) (inner_base assigned channels) channels n inner next.below
    (λ part. (crossing_tests (part_of assigned (get_or channels n absent_channel).from)
    (part_of assigned (get_or channels n absent_channel).to) part
    (λ same. apart (next.from_is ∙ (same ∙ sym next.to_is)))).1)
    ranks

-- ---- places

-- ---- bounds

-- counts fit
pub counts_fit : (test : ℕ → ChannelState → Bool) (base : ℕ → ℕ) (channels : List ChannelState) (n part : ℕ)
    (counts : List ℕ) → AreRanks test base channels n counts → part < length counts → base part ≤ length channels
    → length channels ≤ channel_number_limit → get_or counts part 0 < 2 ^ 31
counts_fit test base channels n part counts ranks there low few =
    omega (arith, ranks.each part there, rank_few (test part) n channels)

-- also after another one was raised
pub other_fits : (test : ℕ → ChannelState → Bool) (base : ℕ → ℕ) (channels : List ChannelState) (n from to : ℕ)
    (counts after : List ℕ) → (from ≡ to → ⊥) → after ≡ set counts from (get_or counts from 0 + 1)
    → AreRanks test base channels n counts → to < length counts → base to ≤ length channels
    → length channels ≤ channel_number_limit → get_or after to 0 < 2 ^ 31
other_fits test base channels n from to counts after apart is ranks there low few =
    let same : get_or after to 0 ≡ get_or counts to 0 =
    ap (λ (l : List ℕ). get_or l to 0) is
    ∙ get_or-set_other counts from to (get_or counts from 0 + 1) 0 (λ same. apart (sym same)) in
    let old : get_or counts to 0 < 2 ^ 31 = counts_fit test base channels n to counts ranks there low few in
    omega arith

-- the part at an end is there
pub end_inside : (assigned : List ℕ) (channels : List ChannelState) (count c side : ℕ)
    → All (λ (part : ℕ). part < count) assigned → All (HasBoxes (length assigned)) channels → c < length channels
    → end_part assigned channels c side < count
end_inside assigned channels count c side parts joins below = by (side == 0) where
  has : HasBoxes (length assigned) (get_or channels c absent_channel)
  has = joins c absent_channel below

  by : (b : Bool) → part_of assigned (if b then (get_or channels c absent_channel).from
      else (get_or channels c absent_channel).to) < count
  by true = parts (get_or channels c absent_channel).from 0 has.from
  by false = parts (get_or channels c absent_channel).to 0 has.to
