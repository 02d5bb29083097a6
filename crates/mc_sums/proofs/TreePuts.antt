-- A tree of sums after one count has changed.
use Rattle.std.proofs.Common.{◌≡◌, ◌≢◌, ◌<◌, ◌≤◌, ◌+◌, ◌-◌, ◌*◌, ◌/◌, ◌%◌, ◌^◌, ◌++◌, inl, inr, ℕ, zero, suc, List, [], ◌∷◌, length, map, min, sum, take, drop, length-drop, length-take, refl, ap, sym, ◌∙◌, subst, arith}
use Rattle.std.proofs.Math.ListN.{get_or, set, length-set}
use Rattle.std.proofs.Math.Seq.{take-set-lt}
use Rattle.std.proofs.lemmas.Bool.{cases_eq, cases_lt}
use Rattle.std.proofs.lemmas.List.{append-nil, drop_all, drop-set-add, drop-set-lt, get_or-drop, get_or-set_other, get_or-set_same, get_or-take, take-set-le, take_all}
use Rattle.std.proofs.lemmas.List.Sums.{sum_by-set}
use Rattle.std.specs.Fork.{slice_chunk}
use Rattle.std.specs.Int.{div_ceil}
use Rattle.mc_sums.specs.Sums.{AreGroupSums, AreSmallSums, AreSums, level_after, level_at}
use Rattle.mc_sums.specs.declared.levels.TheConstants.{FAN}
use Rattle.mc_sums.specs.declared.limit.TheConstants.{COUNT_LIMIT}
use Rattle.mc_sums.proofs.TreeSums.{level_sum, sum_cons}

-- ---- groups

-- each number's group has its place above
pub grouped_long : (level above : List ℕ) (i : ℕ) → AreGroupSums level above → i < length level → i / FAN < length above
grouped_long level above i sums inside = let long = sums.long in omega arith

-- a number is at most the sum of its list
pub in_sum : (xs : List ℕ) (i : ℕ) → get_or xs i 0 ≤ sum xs
in_sum [] i = omega arith
in_sum (x ∷ xs) zero = let one : sum (x ∷ xs) ≡ x + sum xs = sum_cons x xs in omega arith
in_sum (x ∷ xs) (suc i) =
    let one : sum (x ∷ xs) ≡ x + sum xs = sum_cons x xs in
    let rest : get_or xs i 0 ≤ sum xs = in_sum xs i in
    omega arith

-- a number stands in its group
in_group : (level : List ℕ) (group i : ℕ) → i < FAN → get_or (slice_chunk level FAN group) i 0 ≡ get_or level (group * FAN + i) 0
in_group level group i low = get_or-take FAN (drop (group * FAN) level) i 0 low ∙ get_or-drop (group * FAN) level i 0

-- so it is at most the sum of that
pub grouped_covers : (level above : List ℕ) (i : ℕ) → AreGroupSums level above → get_or level i 0 ≤ get_or above (i / FAN) 0
grouped_covers level above i sums =
    let group : ℕ = i / FAN in
    let place : group * FAN + i % FAN ≡ i = omega arith in
    let each : get_or above group 0 ≡ sum (slice_chunk level FAN group) = sums.each group in
    let one : get_or (slice_chunk level FAN group) (i % FAN) 0 ≤ sum (slice_chunk level FAN group) = in_sum (slice_chunk level FAN group) (i % FAN) in
    let same : get_or (slice_chunk level FAN group) (i % FAN) 0 ≡ get_or level i 0 = in_group level group (i % FAN) (omega arith) ∙ ap (λ (n : ℕ). get_or level n 0) place in
    omega arith

-- a number that is replaced changes no group before its own
before_set : (level : List ℕ) (group i v : ℕ) → (group + 1) * FAN ≤ i → slice_chunk (set level i v) FAN group ≡ slice_chunk level FAN group
before_set level group i v past =
    let place : group * FAN + (i - group * FAN) ≡ i = omega arith in
    ap (λ (n : ℕ). slice_chunk (set level n v) FAN group) (sym place)
    ∙ (ap (take FAN) (drop-set-add (group * FAN) level (i - group * FAN) v) ∙ take-set-le FAN (drop (group * FAN) level) (i - group * FAN) v (omega arith))

-- nor one after it
behind_set : (level : List ℕ) (group i v : ℕ) → i < group * FAN → slice_chunk (set level i v) FAN group ≡ slice_chunk level FAN group
behind_set level group i v low = ap (take FAN) (drop-set-lt (group * FAN) level i v low)

-- and no other than its own
other_group : (level : List ℕ) (group i v : ℕ) → group ≢ i / FAN → slice_chunk (set level i v) FAN group ≡ slice_chunk level FAN group
other_group level group i v apart = elim (cases_lt i (group * FAN)) [
  | inl low ↦ behind_set level group i v low
  | inr high ↦ before_set level group i v (omega arith)
]

-- in its own it is replaced
own_group : (level : List ℕ) (i v : ℕ) → slice_chunk (set level i v) FAN (i / FAN) ≡ set (slice_chunk level FAN (i / FAN)) (i % FAN) v
own_group level i v =
    let group : ℕ = i / FAN in
    let place : group * FAN + i % FAN ≡ i = omega arith in
    ap (λ (n : ℕ). slice_chunk (set level n v) FAN group) (sym place)
    ∙ (ap (take FAN) (drop-set-add (group * FAN) level (i % FAN) v) ∙ take-set-lt FAN (drop (group * FAN) level) (i % FAN) v (omega arith))

-- whose sum changes as it does
own_sum : (level : List ℕ) (i less more : ℕ) → i < length level → less ≤ get_or level i 0
    → sum (slice_chunk (set level i (get_or level i 0 - less + more)) FAN (i / FAN)) ≡ sum (slice_chunk level FAN (i / FAN)) - less + more
own_sum level i less more inside enough =
    let group : List ℕ = slice_chunk level FAN (i / FAN) in
    let v : ℕ = get_or level i 0 - less + more in
    let place : i / FAN * FAN + i % FAN ≡ i = omega arith in
    let new : sum (slice_chunk (set level i v) FAN (i / FAN)) ≡ sum (set group (i % FAN) v) = ap sum (own_group level i v) in
    let long : length group ≡ min FAN (length level - i / FAN * FAN) = length-take FAN (drop (i / FAN * FAN) level) ∙ ap (min FAN) (length-drop (i / FAN * FAN) level) in
    let old : get_or group (i % FAN) 0 ≡ get_or level i 0 = in_group level (i / FAN) (i % FAN) (omega arith) ∙ ap (λ (n : ℕ). get_or level n 0) place in
    let both : sum (set group (i % FAN) v) + get_or group (i % FAN) 0 ≡ sum group + v = sum_by-set (λ (n : ℕ). n) group (i % FAN) v 0 (omega arith) in
    let low : get_or group (i % FAN) 0 ≤ sum group = in_sum group (i % FAN) in
    omega arith

-- so the sums of groups change as one number does
pub grouped_set : (level above : List ℕ) (i less more : ℕ) → AreGroupSums level above → i < length level → less ≤ get_or level i 0
    → AreGroupSums (level_after level i less more) (level_after above (i / FAN) less more)
grouped_set level above i less more sums inside enough =
    let new : ℕ = get_or above (i / FAN) 0 - less + more in
    record {
      long = length-set above (i / FAN) new ∙ (sums.long ∙ ap (λ (n : ℕ). div_ceil n FAN) (sym (length-set level i (get_or level i 0 - less + more))));
      each = λ group. elim (cases_eq group (i / FAN)) [
        | inl same ↦
            subst (λ (n : ℕ). get_or (set above (i / FAN) new) n 0 ≡ sum (slice_chunk (level_after level i less more) FAN n)) (sym same)
            (get_or-set_same above (i / FAN) new 0 (grouped_long level above i sums inside)
            ∙ (ap (λ (n : ℕ). n - less + more) (sums.each (i / FAN)) ∙ sym (own_sum level i less more inside enough)))
        | inr apart ↦ get_or-set_other above (i / FAN) group new 0 apart ∙ (sums.each group ∙ ap sum (sym (other_group level group i (get_or level i 0 - less + more) apart)))
      ];
    }

-- ---- level by level

-- the levels below a depth have each lost so many of one number and got so many more, and those from it on are as they were
pub record IsPut (start now : List (List ℕ)) (place less more depth here : ℕ) : Type 0 where
  pub count_same : length now ≡ length start
  pub inside : depth < length start → here < length (level_at start depth)
  pub covers : depth < length start → less ≤ get_or (level_at start depth) here 0
  pub long : (d : ℕ) → length (level_at now d) ≡ length (level_at start d)
  pub above : (d : ℕ) → depth ≤ d → level_at now d ≡ level_at start d
  pub groups : (d : ℕ) → d + 1 < depth → AreGroupSums (level_at now d) (level_at now (d + 1))
  pub seam : (d : ℕ) → d + 1 ≡ depth → depth < length start → AreGroupSums (level_at now d) (level_after (level_at start depth) here less more)
  pub bottom : 0 < depth → level_at now 0 ≡ level_after (level_at start 0) place less more

-- before the first level is changed nothing is
pub put_first : (start : List (List ℕ)) (place less more : ℕ) → less ≤ get_or (level_at start 0) place 0 → place < length (level_at start 0) → IsPut start start place less more 0 place
put_first start place less more enough inside = record {
  count_same = refl;
  inside = λ some. inside;
  covers = λ some. enough;
  long = λ d. refl;
  above = λ d high. refl;
  groups = λ d low. absurd (omega arith);
  seam = λ d is_last some. absurd (omega arith);
  bottom = λ some. absurd (omega arith);
}

-- a level that is replaced is the new one
level_same : (now : List (List ℕ)) (depth : ℕ) (level : List ℕ) → depth < length now → level_at (set now depth level) depth ≡ level
level_same now depth level inside = get_or-set_same now depth level [] inside

-- and the others stay
level_other : (now : List (List ℕ)) (depth d : ℕ) (level : List ℕ) → d ≢ depth → level_at (set now depth level) d ≡ level_at now d
level_other now depth d level apart = get_or-set_other now depth d level [] apart

-- and each is as long as before
same_long : (start now : List (List ℕ)) (depth d : ℕ) (level : List ℕ) → depth < length now → length level ≡ length (level_at start depth) → ((e : ℕ) → length (level_at now e) ≡ length (level_at start e)) → length (level_at (set now depth level) d) ≡ length (level_at start d)
same_long start now depth d level inside is rest = elim (cases_eq d depth) [
  | inl same ↦ subst (λ (e : ℕ). length (level_at (set now depth level) e) ≡ length (level_at start e)) (sym same) (ap length (level_same now depth level inside) ∙ is)
  | inr apart ↦ ap length (level_other now depth d level apart) ∙ rest d
]

-- the lowest level has its count
zero_case : (start now : List (List ℕ)) (place less more depth here : ℕ) → IsPut start now place less more depth here → depth < length now → (depth ≡ 0 → here ≡ place)
    → level_at (set now depth (level_after (level_at start depth) here less more)) 0 ≡ level_after (level_at start 0) place less more
zero_case start now place less more zero here so_far inside begins =
    level_same now 0 (level_after (level_at start 0) here less more) inside ∙ ap (λ (n : ℕ). level_after (level_at start 0) n less more) (begins refl)
zero_case start now place less more (suc depth) here so_far inside begins =
    level_other now (suc depth) 0 (level_after (level_at start (suc depth)) here less more) (λ same. let wrong : 0 ≡ suc depth = same in absurd (omega arith)) ∙ so_far.bottom (omega arith)

-- the changed level still has the sums of the one below it
groups_more : (start now : List (List ℕ)) (place less more depth here d : ℕ) → IsPut start now place less more depth here → depth < length now → d + 1 < depth + 1
    → AreGroupSums (level_at (set now depth (level_after (level_at start depth) here less more)) d) (level_at (set now depth (level_after (level_at start depth) here less more)) (d + 1))
groups_more start now place less more depth here d so_far inside low =
    let level : List ℕ = level_after (level_at start depth) here less more in
    let below : level_at (set now depth level) d ≡ level_at now d = level_other now depth d level (omega arith) in
    subst (λ (l : List ℕ). AreGroupSums l (level_at (set now depth level) (d + 1))) (sym below) (elim (cases_eq (d + 1) depth) [
      | inl same ↦
          subst (λ (e : ℕ). AreGroupSums (level_at now d) (level_at (set now depth level) e)) (sym same)
          (subst (AreGroupSums (level_at now d)) (sym (level_same now depth level inside)) (so_far.seam d same (subst (λ (n : ℕ). depth < n) so_far.count_same inside)))
      | inr apart ↦ subst (AreGroupSums (level_at now d)) (sym (level_other now depth (d + 1) level apart)) (so_far.groups d (omega arith))
    ])

-- at the end all is put
pub put_last : (start now : List (List ℕ)) (place less more here : ℕ) → AreSums start → IsPut start now place less more (length start) here → AreSums now
put_last start now place less more here sums done = record {
  some = subst (λ (n : ℕ). 0 < n) (sym done.count_same) sums.some;
  groups = λ d low. done.groups d (subst (λ (n : ℕ). d + 1 < n) done.count_same low);
  few = λ d. subst (λ (n : ℕ). n ≤ 2 ^ 32) (sym (done.long d)) (sums.few d);
  many = λ d low. subst (λ (n : ℕ). 1 < n) (sym (done.long d)) (sums.many d (subst (λ (n : ℕ). d + 1 < n) done.count_same low));
  top = subst (λ (n : ℕ). length (level_at now (n - 1)) ≤ 1) (sym done.count_same) (subst (λ (n : ℕ). n ≤ 1) (sym (done.long (length start - 1))) sums.top);
}

-- one more level is changed
pub put_more : (start now next : List (List ℕ)) (place less more depth here : ℕ) → AreSums start → (depth ≡ 0 → here ≡ place) → depth < length start
    → IsPut start now place less more depth here → next ≡ set now depth (set (level_at now depth) here (get_or (level_at now depth) here 0 - less + more)) → IsPut start next place less more (depth + 1) (here / FAN)
put_more start now next place less more depth here sums begins inside so_far goes =
    let level : List ℕ = level_after (level_at start depth) here less more in
    let there : depth < length now = subst (λ (n : ℕ). depth < n) (sym so_far.count_same) inside in
    let step : depth + 1 < length start → AreGroupSums (level_at start depth) (level_at start (depth + 1)) = sums.groups depth in
    subst (λ (l : List (List ℕ)). IsPut start l place less more (depth + 1) (here / FAN))
    (sym (goes ∙ ap (λ (l : List ℕ). set now depth (set l here (get_or l here 0 - less + more))) (so_far.above depth (omega arith)))) (record {
      count_same = length-set now depth level ∙ so_far.count_same;
      inside = λ some. grouped_long (level_at start depth) (level_at start (depth + 1)) here (step some) (so_far.inside inside);
      covers = λ some. let one = so_far.covers inside in let two = grouped_covers (level_at start depth) (level_at start (depth + 1)) here (step some) in omega arith;
      long = λ d. same_long start now depth d level there (length-set (level_at start depth) here (get_or (level_at start depth) here 0 - less + more)) so_far.long;
      above = λ d high. level_other now depth d level (omega arith) ∙ so_far.above d (omega arith);
      groups = λ d low. groups_more start now place less more depth here d so_far there low;
      seam = λ d is_last some.
          let same : d ≡ depth = omega arith in
          subst (λ (e : ℕ). AreGroupSums (level_at (set now depth level) e) (level_after (level_at start (depth + 1)) (here / FAN) less more)) (sym same)
          (subst (λ (l : List ℕ). AreGroupSums l (level_after (level_at start (depth + 1)) (here / FAN) less more)) (sym (level_same now depth level there))
          (grouped_set (level_at start depth) (level_at start (depth + 1)) here less more (step some) (so_far.inside inside) (so_far.covers inside)));
      bottom = λ some. zero_case start now place less more depth here so_far there begins;
    })

-- ---- one level of many

-- to replace and then to map is to map and then to replace
pub map_set : {A : Type 0} (f : A → List ℕ) (xs : List A) (k : ℕ) (v : A) → map f (set xs k v) ≡ set (map f xs) k (f v)
map_set f [] k v = refl
map_set f (x ∷ xs) zero v = refl
map_set f (x ∷ xs) (suc k) v = ap (λ (l : List (List ℕ)). f x ∷ l) (map_set f xs k v)

-- what stands at a place of a mapped list
pub map_get : {A : Type 0} (f : A → List ℕ) (xs : List A) (k : ℕ) (d : A) → k < length xs → get_or (map f xs) k [] ≡ f (get_or xs k d)
map_get f [] k d inside = absurd (omega arith)
map_get f (x ∷ xs) zero d inside = refl
map_get f (x ∷ xs) (suc k) d inside = map_get f xs k d (omega arith)

-- the changed level, as lists see it
pub changed_is : {A : Type 0} (f : A → List ℕ) (xs : List A) (k here less more : ℕ) (d new : A) → k < length xs → f new ≡ level_after (f (get_or xs k d)) here less more
    → map f (set xs k new) ≡ set (map f xs) k (level_after (get_or (map f xs) k []) here less more)
changed_is f xs k here less more d new inside goes =
    map_set f xs k new ∙ ap (set (map f xs) k) (goes ∙ ap (λ (l : List ℕ). level_after l here less more) (sym (map_get f xs k d inside)))

-- the new number fits
pub put_fits : (start now : List (List ℕ)) (place less more depth here : ℕ) → AreSums start → depth < length start → sum (level_at start 0) + more < 2 ^ 64 → IsPut start now place less more depth here → get_or (level_at now depth) here 0 + more < 2 ^ 64
put_fits start now place less more depth here sums inside fits so_far =
    let same : get_or (level_at now depth) here 0 ≡ get_or (level_at start depth) here 0 = ap (λ (l : List ℕ). get_or l here 0) (so_far.above depth (omega arith)) in
    let low : get_or (level_at start depth) here 0 ≤ sum (level_at start depth) = in_sum (level_at start depth) here in
    let all : sum (level_at start depth) ≡ sum (level_at start 0) = level_sum start depth sums inside in
    omega arith

-- when all levels are changed they are sums again
pub put_ends : (start now : List (List ℕ)) (place less more depth here : ℕ) → AreSums start → depth ≡ length start → IsPut start now place less more depth here → AreSums now
put_ends start now place less more depth here sums is done = put_last start now place less more here sums (subst (λ (n : ℕ). IsPut start now place less more n here) is done)

-- counts that were small still are, where the new one is
pub changed_small : (start now : List (List ℕ)) (place less more : ℕ) → AreSmallSums start → place < length (level_at start 0) → get_or (level_at start 0) place 0 - less + more ≤ COUNT_LIMIT
    → AreSums now → level_at now 0 ≡ level_after (level_at start 0) place less more → AreSmallSums now
changed_small start now place less more was inside low sums is = record {
  sums = sums;
  small = λ i. subst (λ (l : List ℕ). get_or l i 0 ≤ COUNT_LIMIT) (sym is) (elim (cases_eq i place) [
    | inl same ↦
        subst (λ (n : ℕ). get_or (level_after (level_at start 0) place less more) n 0 ≤ COUNT_LIMIT) (sym same)
        (subst (λ (n : ℕ). n ≤ COUNT_LIMIT) (sym (get_or-set_same (level_at start 0) place (get_or (level_at start 0) place 0 - less + more) 0 inside)) low)
    | inr apart ↦ subst (λ (n : ℕ). n ≤ COUNT_LIMIT) (sym (get_or-set_other (level_at start 0) place i (get_or (level_at start 0) place 0 - less + more) 0 apart)) (was.small i)
  ]);
}

-- what is written back through a slice of all levels is what was written there
pub written_back : {A : Type 0} (new old : List A) (len : ℕ) → length new ≡ len → length old ≡ len → take len (new ++ drop (length new) old) ≡ new
written_back new old len new_long old_long =
    ap (λ l. take len (new ++ l)) (drop_all (length new) old (omega arith)) ∙ (ap (take len) (append-nil new) ∙ take_all len new (omega arith))
