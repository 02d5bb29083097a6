-- The one order of the entries of several logs: there is no other, and each log's entries stand in it in their own order.
use Rattle.std.proofs.Common.{◌≡◌, ◌≢◌, ◌+◌, ◌<◌, ◌≤◌, ◌==◌, ◌++◌, ℕ, zero, suc, Bool, true, false, cond, List, [], ◌∷◌, length, get_or, refl, ap, sym, ◌∙◌, arith}
use Rattle.std.specs.List.{AllByRecursion, filter, sum_by}
use Rattle.std.specs.List.Sorted.{IsSorted, IsPermutation}
use Rattle.std.specs.Cmp.{IsStrictWeakOrder}
use Rattle.std.specs.Ordering.{is_lt}
use Rattle.std.proofs.lemmas.Cmp.{nat_cmp_total, on_total, then_total}
use Rattle.std.proofs.lemmas.Grind.{common_steps}
use Rattle.std.proofs.lemmas.List.{append-nil}
use Rattle.std.proofs.lemmas.List.Elements.{All-from_recursion, filter-append, recursion_from_All}
use Rattle.std.proofs.lemmas.List.Recursion.{is_sum_by}
use Rattle.std.proofs.lemmas.List.Sorted.{All-permutation, ranks_by, sorted_far, sum_by-IsPermutation}
use Rattle.mc_order.specs.Keys.{IsOrdered, OwnOrder, Rise, is_key_of, key_cmp, keys_from, keys_of, stamps_at}
use Rattle.mc_order.specs.declared.Key.{Key}

-- ---- the order, by recursion

abbrev pub lower : Key → Key → Bool
lower a b = is_lt (key_cmp a b)

-- none that stands later is lower
abbrev pub Ranked : List Key → Type 0
Ranked [] = Unit {0}
Ranked (key ∷ keys) = AllByRecursion (λ (later : Key). lower later key ≡ false) keys × Ranked keys

pub key_order : IsStrictWeakOrder lower
key_order = ranks_by (then_total (on_total (λ (k : Key). k.stamp) nat_cmp_total) (then_total (on_total (λ (k : Key). k.who) nat_cmp_total) (on_total (λ (k : Key). k.index) nat_cmp_total))) (λ (k : Key). k)

abbrev Far : List Key → Type 0
Far keys = (i j : ℕ) (d : Key) → i ≤ j → j < length keys → lower (get_or keys j d) (get_or keys i d) ≡ false

far_front : (keys : List Key) (key d : Key) → ((j : ℕ) → j < length keys → lower (get_or keys j d) key ≡ false) → AllByRecursion (λ (later : Key). lower later key ≡ false) keys
far_front [] key d far = tt
far_front (first ∷ keys) key d far = (far 0 (omega arith), far_front keys key d (λ j below. far (suc j) (omega arith)))

far_ranked : (keys : List Key) → Far keys → Ranked keys
far_ranked [] far = tt
far_ranked (key ∷ keys) far = (far_front keys key key (λ j below. far 0 (suc j) key (omega arith) (omega arith)), far_ranked keys (λ i j d least below. far (suc i) (suc j) d (omega arith) (omega arith)))

pub ranked : (keys : List Key) → IsSorted key_cmp keys → Ranked keys
ranked keys sorted = far_ranked keys (sorted_far lower key_order keys sorted)

-- ---- there is one such order

abbrev total : (Key → ℕ) → List Key → ℕ
total f [] = 0
total f (key ∷ keys) = f key + total f keys

abbrev one_if : Bool → ℕ
one_if true = 1
one_if false = 0

not_itself : (key : Key) → lower key key ≡ false
not_itself key = grind (arith, common_steps)

none_lower : (keys : List Key) (key : Key) → AllByRecursion (λ (later : Key). lower later key ≡ false) keys → total (λ (k : Key). one_if (lower k key)) keys ≡ 0
none_lower [] key none = refl
none_lower (first ∷ keys) key none =
    let here : one_if (lower first key) ≡ 0 = ap one_if none.0 in
    let later : total (λ (k : Key). one_if (lower k key)) keys ≡ 0 = none_lower keys key none.1 in
    omega arith

-- whatever is counted, both have as much of it
abbrev Alike : List Key → List Key → Type 0
Alike xs ys = (f : Key → ℕ) → total f xs ≡ total f ys

least_first : (x y : Key) (xs ys : List Key) → Alike (x ∷ xs) (y ∷ ys) → Ranked (y ∷ ys) → (low : Bool) → lower x y ≡ low → low ≡ false
least_first x y xs ys alike rank false is = refl
least_first x y xs ys alike rank true is =
    let here : one_if (lower x y) ≡ 1 = ap one_if is in
    let there : one_if (lower y y) ≡ 0 = ap one_if (not_itself y) in
    let same : one_if (lower x y) + total (λ (k : Key). one_if (lower k y)) xs ≡ one_if (lower y y) + total (λ (k : Key). one_if (lower k y)) ys = alike (λ (k : Key). one_if (lower k y)) in
    let none : total (λ (k : Key). one_if (lower k y)) ys ≡ 0 = none_lower ys y rank.0 in
    absurd (omega arith)

same_stamp : (x y : Key) → lower x y ≡ false → lower y x ≡ false → (x.stamp ≡ y.stamp) × (x.who ≡ y.who) × (x.index ≡ y.index)
same_stamp x y one two = (grind (arith, common_steps), grind (arith, common_steps), grind (arith, common_steps))

same_key : (x y : Key) → lower x y ≡ false → lower y x ≡ false → x ≡ y
same_key x y one two =
    let same = same_stamp x y one two in
    ap (λ (n : ℕ). record x { stamp = n }) same.0 ∙ (ap (λ (n : ℕ). record x { stamp = y.stamp; who = n }) same.1 ∙ ap (λ (n : ℕ). record y { index = n }) same.2)

same_order : (xs ys : List Key) → Ranked xs → Ranked ys → Alike xs ys → xs ≡ ys
same_order [] [] one two alike = refl
same_order [] (y ∷ ys) one two alike = let more : 0 ≡ 1 + total (λ (k : Key). 1) ys = alike (λ (k : Key). 1) in absurd (omega arith)
same_order (x ∷ xs) [] one two alike = let more : 1 + total (λ (k : Key). 1) xs ≡ 0 = alike (λ (k : Key). 1) in absurd (omega arith)
same_order (x ∷ xs) (y ∷ ys) one two alike =
    let first : x ≡ y = same_key x y (least_first x y xs ys alike two (lower x y) refl) (least_first y x ys xs (λ f. sym (alike f)) one (lower y x) refl) in
    let rest : xs ≡ ys = same_order xs ys one.1 two.1 (λ f.
    let same : f x + total f xs ≡ f y + total f ys = alike f in
    let head : f x ≡ f y = ap f first in
    let goal : total f xs ≡ total f ys = omega arith in
    goal) in
    ap (λ (k : Key). k ∷ xs) first ∙ ap (λ (l : List Key). y ∷ l) rest

-- ---- the entries of one log

total_is : (f : Key → ℕ) (keys : List Key) → total f keys ≡ sum_by f keys
total_is f keys = is_sum_by (λ (l : List Key). total f l) f refl (λ x xs. refl) keys

alike_kept : (xs ys : List Key) → IsPermutation xs ys → Alike xs ys
alike_kept xs ys once f = total_is f xs ∙ (sym (sum_by-IsPermutation f xs ys once) ∙ sym (total_is f ys))

abbrev gated : Bool → ℕ → ℕ
gated true n = n
gated false n = 0

total_by : (f : Key → ℕ) (key : Key) (rest kept : List Key) (here : Bool) (n : ℕ) → total f kept ≡ n → total f (cond here (key ∷ kept) kept) ≡ gated here (f key) + n
total_by f key rest kept true n is = ap (λ (m : ℕ). f key + m) is
total_by f key rest kept false n is = let same : total f kept ≡ n = is in omega arith

total_filter : (p : Key → Bool) (f : Key → ℕ) (keys : List Key) → total f (filter p keys) ≡ total (λ (k : Key). gated (p k) (f k)) keys
total_filter p f [] = refl
total_filter p f (key ∷ keys) = total_by f key keys (filter p keys) (p key) (total (λ (k : Key). gated (p k) (f k)) keys) (total_filter p f keys)

alike_filter : (p : Key → Bool) (xs ys : List Key) → Alike xs ys → Alike (filter p xs) (filter p ys)
alike_filter p xs ys alike f = total_filter p f xs ∙ (alike (λ (k : Key). gated (p k) (f k)) ∙ sym (total_filter p f ys))

kept_by : (P : Key → Type 0) (key : Key) (kept : List Key) (here : Bool) → P key → AllByRecursion P kept → AllByRecursion P (cond here (key ∷ kept) kept)
kept_by P key kept true one all = (one, all)
kept_by P key kept false one all = all

all_filter : (P : Key → Type 0) (p : Key → Bool) (keys : List Key) → AllByRecursion P keys → AllByRecursion P (filter p keys)
all_filter P p [] all = tt
all_filter P p (key ∷ keys) all = kept_by P key (filter p keys) (p key) all.0 (all_filter P p keys all.1)

ranked_by : (key : Key) (kept : List Key) (here : Bool) → AllByRecursion (λ (later : Key). lower later key ≡ false) kept → Ranked kept → Ranked (cond here (key ∷ kept) kept)
ranked_by key kept true all rank = (all, rank)
ranked_by key kept false all rank = rank

ranked_filter : (p : Key → Bool) (keys : List Key) → Ranked keys → Ranked (filter p keys)
ranked_filter p [] rank = tt
ranked_filter p (key ∷ keys) rank = ranked_by key (filter p keys) (p key) (all_filter (λ (later : Key). lower later key ≡ false) p keys rank.0) (ranked_filter p keys rank.1)

-- a log whose stamps rise is in order by itself
not_lower : (a b : Key) → a.stamp < b.stamp → lower b a ≡ false
not_lower a b less = grind (arith, common_steps)

rise_front : (key : Key) (who index : ℕ) (stamps : List ℕ) → AllByRecursion (λ later. key.stamp < later) stamps → AllByRecursion (λ (later : Key). lower later key ≡ false) (keys_of who index stamps)
rise_front key who index [] rise = tt
rise_front key who index (stamp ∷ stamps) rise = (not_lower key (record { stamp = stamp; who = who; index = index }) rise.0, rise_front key who (index + 1) stamps rise.1)

rise_ranked : (who index : ℕ) (stamps : List ℕ) → Rise stamps → Ranked (keys_of who index stamps)
rise_ranked who index [] rise = tt
rise_ranked who index (stamp ∷ stamps) rise = (rise_front (record { stamp = stamp; who = who; index = index }) who (index + 1) stamps rise.0, rise_ranked who (index + 1) stamps rise.1)

-- and of all entries those of one log are its own
own_test : (who other : ℕ) (test : Bool) → (other == who) ≡ test → other ≡ who → test ≡ true
own_test who other test is same = grind (arith, common_steps)

other_test : (who other : ℕ) → other ≢ who → (other == who) ≡ false
other_test who other apart = grind (arith, common_steps)

filter_own : (who index : ℕ) (stamps : List ℕ) → filter (is_key_of who) (keys_of who index stamps) ≡ keys_of who index stamps
filter_own who index [] = refl
filter_own who index (stamp ∷ stamps) =
    let key : Key = record { stamp = stamp; who = who; index = index } in
    let kept : List Key = filter (is_key_of who) (keys_of who (index + 1) stamps) in
    ap (λ (b : Bool). cond b (record { stamp = stamp; who = who; index = index } ∷ filter (is_key_of who) (keys_of who (index + 1) stamps)) (filter (is_key_of who) (keys_of who (index + 1) stamps))) (own_test who who (who == who) refl refl)
    ∙ ap (λ (l : List Key). record { stamp = stamp; who = who; index = index } ∷ l) (filter_own who (index + 1) stamps)

filter_other : (who other index : ℕ) (stamps : List ℕ) → other ≢ who → filter (is_key_of who) (keys_of other index stamps) ≡ []
filter_other who other index [] apart = refl
filter_other who other index (stamp ∷ stamps) apart =
    ap (λ (b : Bool). cond b (record { stamp = stamp; who = other; index = index } ∷ filter (is_key_of who) (keys_of other (index + 1) stamps)) (filter (is_key_of who) (keys_of other (index + 1) stamps))) (other_test who other apart)
    ∙ filter_other who other (index + 1) stamps apart

filter_before : (logs : List (List ℕ)) (who first : ℕ) → who < first → filter (is_key_of who) (keys_from first logs) ≡ []
filter_before [] who first below = refl
filter_before (log ∷ logs) who first below =
    filter-append (is_key_of who) (keys_of first 0 log) (keys_from (first + 1) logs)
    ∙ (ap (λ (l : List Key). l ++ filter (is_key_of who) (keys_from (first + 1) logs)) (filter_other who first 0 log (λ same. absurd (omega arith)))
    ∙ filter_before logs who (first + 1) (omega arith))

filter_from : (logs : List (List ℕ)) (who first i : ℕ) → who ≡ first + i → filter (is_key_of who) (keys_from first logs) ≡ keys_of who 0 (stamps_at logs i)
filter_from [] who first i is = refl
filter_from (log ∷ logs) who first zero is =
    let same : first ≡ who = omega arith in
    filter-append (is_key_of who) (keys_of first 0 log) (keys_from (first + 1) logs)
    ∙ (ap (λ (l : List Key). filter (is_key_of who) (keys_of first 0 log) ++ l) (filter_before logs who (first + 1) (omega arith))
    ∙ (append-nil (filter (is_key_of who) (keys_of first 0 log))
    ∙ (ap (λ (n : ℕ). filter (is_key_of who) (keys_of n 0 log)) same ∙ filter_own who 0 log)))
filter_from (log ∷ logs) who first (suc i) is =
    filter-append (is_key_of who) (keys_of first 0 log) (keys_from (first + 1) logs)
    ∙ (ap (λ (l : List Key). l ++ filter (is_key_of who) (keys_from (first + 1) logs)) (filter_other who first 0 log (λ same. absurd (omega arith)))
    ∙ filter_from logs who (first + 1) i (omega arith))

pub own_order : (logs : List (List ℕ)) (keys : List Key) → IsOrdered logs keys → ((who : ℕ) → Rise (stamps_at logs who)) → OwnOrder logs keys
own_order logs keys ordered rise who =
    same_order (filter (is_key_of who) keys) (keys_of who 0 (stamps_at logs who)) (ranked_filter (is_key_of who) keys (ranked keys ordered.sorted)) (rise_ranked who 0 (stamps_at logs who) (rise who))
    (λ f. sym (alike_filter (is_key_of who) (keys_from 0 logs) keys (alike_kept (keys_from 0 logs) keys ordered.each_once) f) ∙ ap (total f) (filter_from logs who 0 who (omega arith)))

-- ---- the order is the only one

pub one_order : (logs : List (List ℕ)) (xs ys : List Key) → IsOrdered logs xs → IsOrdered logs ys → xs ≡ ys
one_order logs xs ys one two =
    same_order xs ys (ranked xs one.sorted) (ranked ys two.sorted)
    (λ f. sym (alike_kept (keys_from 0 logs) xs one.each_once f) ∙ alike_kept (keys_from 0 logs) ys two.each_once f)

-- ---- each key names an entry

pub record Names (logs : List (List ℕ)) (key : Key) : Type 0 where
  pub who : key.who < length logs
  pub index : key.index < length (stamps_at logs key.who)
  pub stamp : get_or (stamps_at logs key.who) key.index 0 ≡ key.stamp

-- a log is what stands in all at its number
named_of : (logs : List (List ℕ)) (who : ℕ) (rest : List ℕ) (index : ℕ) → who < length logs → length (stamps_at logs who) ≡ index + length rest
    → ((i : ℕ) → i < length rest → get_or (stamps_at logs who) (index + i) 0 ≡ get_or rest i 0) → AllByRecursion (Names logs) (keys_of who index rest)
named_of logs who [] index inside long same = tt
named_of logs who (stamp ∷ rest) index inside long same = (
  record { who = inside; index = omega arith; stamp = ap (λ (n : ℕ). get_or (stamps_at logs who) n 0) (let e : index ≡ index + 0 = omega arith in e) ∙ same 0 (omega arith) },
  named_of logs who rest (index + 1) inside (omega arith)
      (λ i below. ap (λ (n : ℕ). get_or (stamps_at logs who) n 0) (let e : (index + 1) + i ≡ index + suc i = omega arith in e) ∙ same (suc i) (omega arith)),
)

all_append : (P : Key → Type 0) (xs ys : List Key) → AllByRecursion P xs → AllByRecursion P ys → AllByRecursion P (xs ++ ys)
all_append P [] ys one two = two
all_append P (x ∷ xs) ys one two = (one.0, all_append P xs ys one.1 two)

named_from : (logs rest : List (List ℕ)) (first : ℕ) → length logs ≡ first + length rest → ((i : ℕ) → i < length rest → stamps_at logs (first + i) ≡ stamps_at rest i) → AllByRecursion (Names logs) (keys_from first rest)
named_from logs [] first long same = tt
named_from logs (log ∷ rest) first long same =
    let here : stamps_at logs first ≡ log = ap (λ (n : ℕ). stamps_at logs n) (let e : first ≡ first + 0 = omega arith in e) ∙ same 0 (omega arith) in
    all_append (Names logs) (keys_of first 0 log) (keys_from (first + 1) rest)
    (named_of logs first log 0 (omega arith) (ap (λ (l : List ℕ). length l) here ∙ (let e : length log ≡ 0 + length log = omega arith in e))
    (λ i below. ap (λ (l : List ℕ). get_or l (0 + i) 0) here ∙ ap (λ (n : ℕ). get_or log n 0) (let e : 0 + i ≡ i = omega arith in e)))
    (named_from logs rest (first + 1) (omega arith)
    (λ i below. ap (λ (n : ℕ). stamps_at logs n) (let e : (first + 1) + i ≡ first + suc i = omega arith in e) ∙ same (suc i) (omega arith)))

pub all_named : (logs : List (List ℕ)) (keys : List Key) → IsOrdered logs keys → AllByRecursion (Names logs) keys
all_named logs keys ordered =
    recursion_from_All (Names logs) keys
    (All-permutation (Names logs) (keys_from 0 logs) keys ordered.each_once
    (All-from_recursion (Names logs) (keys_from 0 logs) (named_from logs logs 0 (omega arith) (λ i below. ap (λ (n : ℕ). stamps_at logs n) (let e : 0 + i ≡ i = omega arith in e)))))

-- ---- stamps never fall

stamp_least : (a b : Key) → lower b a ≡ false → a.stamp ≤ b.stamp
stamp_least a b low = grind (arith, common_steps)

abbrev pub NeverFall : List Key → Type 0
NeverFall [] = Unit {0}
NeverFall (key ∷ keys) = AllByRecursion (λ (later : Key). key.stamp ≤ later.stamp) keys × NeverFall keys

later_stamps : (key : Key) (keys : List Key) → AllByRecursion (λ (later : Key). lower later key ≡ false) keys → AllByRecursion (λ (later : Key). key.stamp ≤ later.stamp) keys
later_stamps key [] low = tt
later_stamps key (first ∷ keys) low = (stamp_least key first low.0, later_stamps key keys low.1)

never_fall : (keys : List Key) → Ranked keys → NeverFall keys
never_fall [] rank = tt
never_fall (key ∷ keys) rank = (later_stamps key keys rank.0, never_fall keys rank.1)

pub ordered_stamps : (logs : List (List ℕ)) (keys : List Key) → IsOrdered logs keys → NeverFall keys
ordered_stamps logs keys ordered = never_fall keys (ranked keys ordered.sorted)
