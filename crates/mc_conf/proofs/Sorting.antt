-- There is one order of legs by the numbers of their parties' slots that keeps those of one slot as they stand.
use Rattle.std.proofs.Common.{◌≡◌, ◌<◌, ◌≤◌, ◌==◌, ℕ, zero, suc, Bool, true, false, cond, nat_le, if◌then◌else◌, List, [], ◌∷◌, length, get_or, refl, ap, sym, ◌∙◌, arith}
use Rattle.std.specs.List.{AllByRecursion, filter}
use Rattle.std.specs.List.Sorted.{IsNonDecreasingBy, IsSortedByKey, IsStableByKey, ties}
use Rattle.std.specs.Ordering.{is_lt, nat_cmp}
use Rattle.std.proofs.lemmas.Grind.{common_steps}
use Rattle.std.proofs.lemmas.List.Elements.{filter_agree}
use Rattle.std.proofs.lemmas.List.Sorted.{IsNonDecreasingBy-from_sort}
use Rattle.mc_conf.specs.Legs.{in_order, inserted}
use Rattle.mc_conf.specs.declared.party.Leg.{Leg}

-- ---- the order, by recursion

-- a leg is of the slot of another
abbrev pub is_alike : Leg → Leg → Bool
is_alike one leg = leg.party.slot == one.party.slot

abbrev pub slot_of : Leg → ℕ
slot_of leg = leg.party.slot

-- none that stands later has a lower slot
abbrev pub Ranked : List Leg → Type 0
Ranked [] = Unit {0}
Ranked (leg ∷ legs) = AllByRecursion (λ (later : Leg). leg.party.slot ≤ later.party.slot) legs × Ranked legs

front : (legs : List Leg) (n : ℕ) (d : Leg) → ((j : ℕ) → j < length legs → n ≤ slot_of (get_or legs j d)) → AllByRecursion (λ (later : Leg). n ≤ later.party.slot) legs
front [] n d far = tt
front (first ∷ legs) n d far = (far 0 (omega arith), front legs n d (λ j below. far (suc j) (omega arith)))

ranked : (legs : List Leg) → IsNonDecreasingBy slot_of legs → Ranked legs
ranked [] rise = tt
ranked (leg ∷ legs) rise = (front legs leg.party.slot leg (λ j below. rise 0 (suc j) leg (omega arith) (omega arith)), ranked legs (λ i j d least below. rise (suc i) (suc j) d (omega arith) (omega arith)))

-- ---- there is one

own_test : (n : ℕ) → (n == n) ≡ true
own_test n = grind (arith, common_steps)

none_alike : (one : Leg) (n : ℕ) (legs : List Leg) → one.party.slot < n → AllByRecursion (λ (later : Leg). n ≤ later.party.slot) legs → filter (is_alike one) legs ≡ []
none_alike one n [] below all = refl
none_alike one n (leg ∷ legs) below all =
    let past : n ≤ leg.party.slot = all.0 in
    let apart : (leg.party.slot == one.party.slot) ≡ false = grind (arith, common_steps) in
    ap (λ (b : Bool). cond b (leg ∷ filter (is_alike one) legs) (filter (is_alike one) legs)) apart ∙ none_alike one n legs below all.1

-- two lists have the same legs of each slot, in the same order
abbrev pub AreAlike : (xs ys : List Leg) → Type 0
AreAlike xs ys = (one : Leg) → filter (is_alike one) xs ≡ filter (is_alike one) ys

own_first : (leg : Leg) (legs : List Leg) → filter (is_alike leg) (leg ∷ legs) ≡ leg ∷ filter (is_alike leg) legs
own_first leg legs = ap (λ (b : Bool). cond b (leg ∷ filter (is_alike leg) legs) (filter (is_alike leg) legs)) (own_test leg.party.slot)

other_first : (one leg : Leg) (legs : List Leg) → leg.party.slot ≡ one.party.slot → filter (is_alike one) (leg ∷ legs) ≡ leg ∷ filter (is_alike one) legs
other_first one leg legs is =
    ap (λ (b : Bool). cond b (leg ∷ filter (is_alike one) legs) (filter (is_alike one) legs)) (ap (λ (n : ℕ). n == one.party.slot) is ∙ own_test one.party.slot)

by_tests : (b c : Bool) (x y : Leg) (us vs : List Leg) → b ≡ c → cond b (x ∷ us) us ≡ cond c (y ∷ vs) vs → us ≡ vs
by_tests true true x y us vs same is = cc
by_tests false false x y us vs same is = is
by_tests true false x y us vs same is = absurd (cc)
by_tests false true x y us vs same is = absurd (cc)

tails : (x y : Leg) (xs ys : List Leg) → x.party.slot ≡ y.party.slot → AreAlike (x ∷ xs) (y ∷ ys) → AreAlike xs ys
tails x y xs ys same alike one =
    by_tests (is_alike one x) (is_alike one y) x y (filter (is_alike one) xs) (filter (is_alike one) ys) (ap (λ (n : ℕ). n == one.party.slot) same) (alike one)

none_lower : (x : Leg) (xs ys : List Leg) (n : ℕ) → x.party.slot < n → AllByRecursion (λ (later : Leg). n ≤ later.party.slot) ys → filter (is_alike x) (x ∷ xs) ≡ filter (is_alike x) ys → ⊥
none_lower x xs ys n below all alike =
    let clash : x ∷ filter (is_alike x) xs ≡ [] = sym (own_first x xs) ∙ (alike ∙ none_alike x n ys below all) in
    absurd (cc)

data Compared (a b : ℕ) : Type 0 where
  less : a < b → Compared a b
  same : a ≡ b → Compared a b
  more : b < a → Compared a b

compared_suc : (a b : ℕ) → Compared a b → Compared (suc a) (suc b)
compared_suc a b (less is) = less (omega arith)
compared_suc a b (same is) = same (omega arith)
compared_suc a b (more is) = more (omega arith)

compared : (a b : ℕ) → Compared a b
compared zero zero = same refl
compared zero (suc b) = less (omega arith)
compared (suc a) zero = more (omega arith)
compared (suc a) (suc b) = compared_suc a b (compared a b)

first_same : (x y : Leg) (xs ys : List Leg) → x.party.slot ≡ y.party.slot → AreAlike (x ∷ xs) (y ∷ ys) → x ≡ y
first_same x y xs ys is alike =
    let both : x ∷ filter (is_alike x) xs ≡ y ∷ filter (is_alike x) ys = sym (own_first x xs) ∙ (alike x ∙ other_first x y ys (sym is)) in
    cc (both)

cons_same : (x y : Leg) (xs ys : List Leg) → x ≡ y → xs ≡ ys → x ∷ xs ≡ y ∷ ys
cons_same x y xs ys one two = cc

pub one_order : (xs ys : List Leg) → Ranked xs → Ranked ys → AreAlike xs ys → xs ≡ ys
one_order [] [] one two alike = refl
one_order [] (y ∷ ys) one two alike = let clash : [] ≡ y ∷ filter (is_alike y) ys = alike y ∙ own_first y ys in absurd (cc)
one_order (x ∷ xs) [] one two alike = let clash : x ∷ filter (is_alike x) xs ≡ [] = sym (own_first x xs) ∙ alike x in absurd (cc)
one_order (x ∷ xs) (y ∷ ys) one two alike = elim (compared x.party.slot y.party.slot) [
  | less below ↦ absurd (none_lower x xs (y ∷ ys) y.party.slot below (omega arith, two.0) (alike x))
  | same is ↦ cons_same x y xs ys (first_same x y xs ys is alike) (one_order xs ys one.1 two.1 (tails x y xs ys is alike))
  | more below ↦ absurd (none_lower y ys (x ∷ xs) x.party.slot below (omega arith, one.0) (sym (alike y)))
]

-- ---- it is made by putting each in its place

swapped : (a b : Bool) (x y : Leg) (legs : List Leg) → (a ≡ true → b ≡ true → ⊥)
    → cond a (y ∷ cond b (x ∷ legs) legs) (cond b (x ∷ legs) legs) ≡ cond b (x ∷ cond a (y ∷ legs) legs) (cond a (y ∷ legs) legs)
swapped true true x y legs apart = absurd (apart refl refl)
swapped true false x y legs apart = refl
swapped false true x y legs apart = refl
swapped false false x y legs apart = refl

not_both : (x y z : ℕ) → nat_le x y ≡ false → (y == z) ≡ true → (x == z) ≡ true → ⊥
not_both x y z past one two = absurd (grind (arith, common_steps))

alike_by : (one leg first : Leg) (rest : List Leg) (low : Bool) → nat_le leg.party.slot first.party.slot ≡ low → filter (is_alike one) (inserted leg rest) ≡ filter (is_alike one) (leg ∷ rest)
    → filter (is_alike one) (if low then leg ∷ first ∷ rest else first ∷ inserted leg rest) ≡ filter (is_alike one) (leg ∷ first ∷ rest)
alike_by one leg first rest true is later = refl
alike_by one leg first rest false is later =
    ap (λ (legs : List Leg). cond (is_alike one first) (first ∷ legs) legs) later
    ∙ swapped (is_alike one first) (is_alike one leg) leg first (filter (is_alike one) rest) (not_both leg.party.slot first.party.slot one.party.slot is)

inserted_alike : (one leg : Leg) (legs : List Leg) → filter (is_alike one) (inserted leg legs) ≡ filter (is_alike one) (leg ∷ legs)
inserted_alike one leg [] = refl
inserted_alike one leg (first ∷ rest) = alike_by one leg first rest (nat_le leg.party.slot first.party.slot) refl (inserted_alike one leg rest)

pub order_alike : (legs : List Leg) → AreAlike (in_order legs) legs
order_alike [] one = refl
order_alike (leg ∷ legs) one =
    inserted_alike one leg (in_order legs) ∙ ap (λ (l : List Leg). cond (is_alike one leg) (leg ∷ l) l) (order_alike legs one)

all_by : (P : Leg → Type 0) (leg first : Leg) (rest : List Leg) (low : Bool) → P leg → P first → AllByRecursion P rest → AllByRecursion P (inserted leg rest)
    → AllByRecursion P (if low then leg ∷ first ∷ rest else first ∷ inserted leg rest)
all_by P leg first rest true one two all later = (one, (two, all))
all_by P leg first rest false one two all later = (two, later)

pub all_inserted : (P : Leg → Type 0) (leg : Leg) (legs : List Leg) → P leg → AllByRecursion P legs → AllByRecursion P (inserted leg legs)
all_inserted P leg [] one all = (one, tt)
all_inserted P leg (first ∷ rest) one all = all_by P leg first rest (nat_le leg.party.slot first.party.slot) one all.0 all.1 (all_inserted P leg rest one all.1)

pub all_in_order : (P : Leg → Type 0) (legs : List Leg) → AllByRecursion P legs → AllByRecursion P (in_order legs)
all_in_order P [] all = tt
all_in_order P (leg ∷ legs) all = all_inserted P leg (in_order legs) all.0 (all_in_order P legs all.1)

above : (m n : ℕ) (legs : List Leg) → m ≤ n → AllByRecursion (λ (later : Leg). n ≤ later.party.slot) legs → AllByRecursion (λ (later : Leg). m ≤ later.party.slot) legs
above m n [] below all = tt
above m n (leg ∷ legs) below all = let past : n ≤ leg.party.slot = all.0 in (omega arith, above m n legs below all.1)

test_true : (m n : ℕ) → nat_le m n ≡ true → m ≤ n
test_true m n is = grind (arith, common_steps)

test_false : (m n : ℕ) → nat_le m n ≡ false → n ≤ m
test_false m n is = grind (arith, common_steps)

ranked_by : (leg first : Leg) (rest : List Leg) (low : Bool) → nat_le leg.party.slot first.party.slot ≡ low → Ranked (first ∷ rest) → Ranked (inserted leg rest) → Ranked (if low then leg ∷ first ∷ rest else first ∷ inserted leg rest)
ranked_by leg first rest true is rank later =
    let below : leg.party.slot ≤ first.party.slot = test_true leg.party.slot first.party.slot is in
    ((below, above leg.party.slot first.party.slot rest below rank.0), rank)
ranked_by leg first rest false is rank later =
    (all_inserted (λ (next : Leg). first.party.slot ≤ next.party.slot) leg rest (test_false leg.party.slot first.party.slot is) rank.0, later)

ranked_inserted : (leg : Leg) (legs : List Leg) → Ranked legs → Ranked (inserted leg legs)
ranked_inserted leg [] rank = (tt, tt)
ranked_inserted leg (first ∷ rest) rank = ranked_by leg first rest (nat_le leg.party.slot first.party.slot) refl rank (ranked_inserted leg rest rank.1)

pub order_ranked : (legs : List Leg) → Ranked (in_order legs)
order_ranked [] = tt
order_ranked (leg ∷ legs) = ranked_inserted leg (in_order legs) (order_ranked legs)

-- ---- a stable sort makes it

ties_are : (one leg : Leg) → ties (λ (x y : Leg). is_lt (nat_cmp (slot_of x) (slot_of y))) one leg ≡ is_alike one leg
ties_are one leg = grind (arith, common_steps)

pub sorted_is : (xs ys : List Leg) → IsSortedByKey slot_of nat_cmp ys → IsStableByKey slot_of nat_cmp xs ys → ys ≡ in_order xs
sorted_is xs ys sorted stable =
    one_order ys (in_order xs) (ranked ys (IsNonDecreasingBy-from_sort slot_of ys sorted)) (order_ranked xs)
    (λ one.
    sym (filter_agree (ties (λ (x y : Leg). is_lt (nat_cmp (slot_of x) (slot_of y))) one) (is_alike one) (ties_are one) ys)
    ∙ (stable one ∙ (filter_agree (ties (λ (x y : Leg). is_lt (nat_cmp (slot_of x) (slot_of y))) one) (is_alike one) (ties_are one) xs
    ∙ sym (order_alike xs one))))
