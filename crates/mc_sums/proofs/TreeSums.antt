-- Sums of groups of neighbours, and what a search in a tree of sums keeps.
use Rattle.std.proofs.Common.{◌≡◌, ◌<◌, ◌≤◌, ◌+◌, ◌-◌, ◌*◌, ◌^◌, ℕ, zero, suc, List, [], ◌∷◌, length, sum, take, drop, add-one, refl, ap, sym, ◌∙◌, subst, arith}
use Rattle.std.proofs.Math.ListN.{get_or}
use Rattle.std.proofs.lemmas.List.{drop-take, take-take}
use Rattle.std.proofs.lemmas.List.Sums.{sum_by-cons, sum_by-take-drop, sum_by-take-le}
use Rattle.std.proofs.lemmas.Slice.Chunks.{sum_by_chunks}
use Rattle.std.specs.Fork.{slice_chunk}
use Rattle.mc_sums.specs.Sums.{AreGroupSums, AreSmallSums, AreSums, IsKth, level_at}
use Rattle.mc_sums.specs.declared.levels.TheConstants.{FAN}
use Rattle.mc_sums.specs.declared.limit.TheConstants.{COUNT_LIMIT}

-- ---- sums

-- the sum of a list by its first number
pub sum_cons : (x : ℕ) (xs : List ℕ) → sum (x ∷ xs) ≡ x + sum xs
sum_cons x xs = sum_by-cons (λ (n : ℕ). n) x xs

-- where a number is above 0 its place is within the list
pub there : (xs : List ℕ) (i n : ℕ) → n < get_or xs i 0 → i < length xs
there [] i n some = absurd (omega arith)
there (x ∷ xs) zero n some = omega arith
there (x ∷ xs) (suc i) n some = let rest = there xs i n some in omega arith

-- one more number is taken
pub take_one : (xs : List ℕ) (i : ℕ) → sum (take (suc i) xs) ≡ sum (take i xs) + get_or xs i 0
take_one [] zero = refl
take_one [] (suc i) = refl
take_one (x ∷ xs) zero = let one = sum_cons x [] in omega arith
take_one (x ∷ xs) (suc i) =
    let one : sum (x ∷ take (suc i) xs) ≡ x + sum (take (suc i) xs) = sum_cons x (take (suc i) xs) in
    let two : sum (x ∷ take i xs) ≡ x + sum (take i xs) = sum_cons x (take i xs) in
    let rest : sum (take (suc i) xs) ≡ sum (take i xs) + get_or xs i 0 = take_one xs i in
    omega arith

-- a number and what stands before it are no more than what stands before a later one
take_later : (xs : List ℕ) (i j : ℕ) → i < j → sum (take i xs) + get_or xs i 0 ≤ sum (take j xs)
take_later xs i j before =
    let one : sum (take (suc i) xs) ≡ sum (take i xs) + get_or xs i 0 = take_one xs i in
    let same : sum (take (suc i) (take j xs)) ≡ sum (take (suc i) xs) = ap sum (take-take (suc i) j xs (omega arith)) in
    let low : sum (take (suc i) (take j xs)) ≤ sum (take j xs) = sum_by-take-le (λ (n : ℕ). n) (take j xs) (suc i) in
    omega arith

-- where two numbers are the whole sum, nothing stands before the first, and the first alone before the second
two_are_all : (xs : List ℕ) (i j : ℕ) → i < j → get_or xs i 0 + get_or xs j 0 ≡ sum xs → (sum (take i xs) ≡ 0) × (sum (take j xs) ≡ get_or xs i 0)
two_are_all xs i j before are_all =
    let one : sum (take i xs) + get_or xs i 0 ≤ sum (take j xs) = take_later xs i j before in
    let two : sum (take (suc j) xs) ≡ sum (take j xs) + get_or xs j 0 = take_one xs j in
    let all : sum (take (suc j) xs) ≤ sum xs = sum_by-take-le (λ (n : ℕ). n) xs (suc j) in
    (omega arith, omega arith)

-- so one that is searched for stands at the first of them, or else at the second
pub at_first : (xs : List ℕ) (i j k : ℕ) → i < j → get_or xs i 0 + get_or xs j 0 ≡ sum xs → k < get_or xs i 0 → IsKth xs 0 k i k
at_first xs i j k before are_all low =
    let none : sum (take i xs) ≡ 0 = (two_are_all xs i j before are_all).0 in
    record { before = omega arith; within = low }

pub at_second : (xs : List ℕ) (i j k : ℕ) → i < j → get_or xs i 0 + get_or xs j 0 ≡ sum xs → get_or xs i 0 ≤ k → k < sum xs → IsKth xs 0 k j (k - get_or xs i 0)
at_second xs i j k before are_all high inside =
    let first : sum (take j xs) ≡ get_or xs i 0 = (two_are_all xs i j before are_all).1 in
    record { before = omega arith; within = omega arith }

-- so many more
take_several : (xs : List ℕ) (i n : ℕ) → sum (take (i + n) xs) ≡ sum (take i xs) + sum (take n (drop i xs))
take_several xs i n =
    let parts : sum (take i (take (i + n) xs)) + sum (drop i (take (i + n) xs)) ≡ sum (take (i + n) xs) = sum_by-take-drop (λ (n : ℕ). n) (take (i + n) xs) i in
    let first : sum (take i (take (i + n) xs)) ≡ sum (take i xs) = ap sum (take-take i (i + n) xs (omega arith)) in
    let others : sum (drop i (take (i + n) xs)) ≡ sum (take n (drop i xs)) = ap sum (drop-take i n xs) in
    omega arith

-- small counts have a small sum
sum_small : (xs : List ℕ) → ((i : ℕ) → get_or xs i 0 ≤ COUNT_LIMIT) → sum xs ≤ length xs * COUNT_LIMIT
sum_small [] small = omega arith
sum_small (x ∷ xs) small =
    let one : sum (x ∷ xs) ≡ x + sum xs = sum_cons x xs in
    let first : x ≤ COUNT_LIMIT = small 0 in
    let rest : sum xs ≤ length xs * COUNT_LIMIT = sum_small xs (λ i. small (suc i)) in
    omega arith

-- which fits, where they are few
pub small_fits : (xs : List ℕ) → length xs ≤ 2 ^ 32 → ((i : ℕ) → get_or xs i 0 ≤ COUNT_LIMIT) → sum xs < 2 ^ 63
small_fits xs few small = let low : sum xs ≤ length xs * COUNT_LIMIT = sum_small xs small in omega arith

-- so counts that are kept fit
pub sums_fit : (levels : List (List ℕ)) → AreSmallSums levels → sum (level_at levels 0) < 2 ^ 63
sums_fit levels small = small_fits (level_at levels 0) (small.sums.few 0) small.small

-- ---- groups

-- what stands before the next group is what stands before this one, and it
group_more : (level : List ℕ) (group : ℕ) → sum (take (suc group * FAN) level) ≡ sum (take (group * FAN) level) + sum (slice_chunk level FAN group)
group_more level group = ap (λ (n : ℕ). sum (take n level)) (let e : suc group * FAN ≡ group * FAN + FAN = omega arith in e) ∙ take_several level (group * FAN) FAN

-- what stands before a number is what stands before its group
pub grouped_before : (level above : List ℕ) (group : ℕ) → AreGroupSums level above → sum (take group above) ≡ sum (take (group * FAN) level)
grouped_before level above zero sums = refl
grouped_before level above (suc group) sums =
    let rest : sum (take group above) ≡ sum (take (group * FAN) level) = grouped_before level above group sums in
    let one : sum (take (suc group) above) ≡ sum (take group above) + get_or above group 0 = take_one above group in
    let two : sum (take (suc group * FAN) level) ≡ sum (take (group * FAN) level) + sum (slice_chunk level FAN group) = group_more level group in
    let each : get_or above group 0 ≡ sum (slice_chunk level FAN group) = sums.each group in
    omega arith

-- sums of groups have the same sum
pub grouped_sum : (level above : List ℕ) → AreGroupSums level above → sum above ≡ sum level
grouped_sum level above sums = sum_by_chunks (λ (n : ℕ). n) FAN level above (λ group inside. sums.each group) (omega arith) sums.long

-- ---- levels

-- each level has the same sum
pub level_sum : (levels : List (List ℕ)) (depth : ℕ) → AreSums levels → depth < length levels → sum (level_at levels depth) ≡ sum (level_at levels 0)
level_sum levels zero sums inside = refl
level_sum levels (suc depth) sums inside =
    let step : AreGroupSums (level_at levels depth) (level_at levels (suc depth)) = subst (λ (n : ℕ). AreGroupSums (level_at levels depth) (level_at levels n)) (add-one depth) (sums.groups depth (omega arith)) in
    grouped_sum (level_at levels depth) (level_at levels (suc depth)) step ∙ level_sum levels depth sums (omega arith)

-- a list of one number at most has that as its sum
single : (xs : List ℕ) → length xs ≤ 1 → get_or xs 0 0 ≡ sum xs
single [] few = refl
single (x ∷ []) few = let one = sum_cons x [] in omega arith
single (x ∷ y ∷ xs) few = absurd (omega arith)

-- the top has the sum of all
pub top_is : (levels : List (List ℕ)) → AreSums levels → get_or (level_at levels (length levels - 1)) 0 0 ≡ sum (level_at levels 0)
top_is levels sums = single (level_at levels (length levels - 1)) sums.top ∙ level_sum levels (length levels - 1) sums (let some = sums.some in omega arith)

-- where a search is
pub record IsAt (levels : List (List ℕ)) (k depth place rest : ℕ) : Type 0 where
  pub inside : depth < length levels
  pub before : sum (take place (level_at levels depth)) + rest ≡ k
  pub within : rest < get_or (level_at levels depth) place 0

-- the search begins at the top
pub starts : (levels : List (List ℕ)) (k : ℕ) → AreSums levels → k < sum (level_at levels 0) → IsAt levels k (length levels - 1) 0 k
starts levels k sums low = record {
  inside = let some = sums.some in omega arith;
  before = omega arith;
  within = subst (λ (n : ℕ). k < n) (sym (top_is levels sums)) low;
}

-- one level down is the list whose groups stand above
pub step_down : (levels : List (List ℕ)) (depth : ℕ) → AreSums levels → 0 < depth → depth < length levels → AreGroupSums (level_at levels (depth - 1)) (level_at levels depth)
step_down levels zero sums some inside = absurd (omega arith)
step_down levels (suc depth) sums some inside =
    let less : suc depth - 1 ≡ depth = omega arith in
    subst (λ (n : ℕ). AreGroupSums (level_at levels n) (level_at levels (suc depth))) (sym less)
    (subst (λ (n : ℕ). AreGroupSums (level_at levels depth) (level_at levels n)) (add-one depth) (sums.groups depth (omega arith)))

-- a group and what stands before it are no more than their level
pub group_fits : (levels : List (List ℕ)) (depth place : ℕ) → AreSums levels → 0 < depth → depth < length levels
    → sum (take (place * FAN) (level_at levels (depth - 1))) + get_or (level_at levels depth) place 0 ≤ sum (level_at levels (depth - 1))
group_fits levels depth place sums some inside =
    let level : List ℕ = level_at levels (depth - 1) in
    let group : get_or (level_at levels depth) place 0 ≡ sum (slice_chunk level FAN place) = (step_down levels depth sums some inside).each place in
    let more : sum (take (suc place * FAN) level) ≡ sum (take (place * FAN) level) + sum (slice_chunk level FAN place) = group_more level place in
    let all : sum (take (suc place * FAN) level) ≤ sum level = sum_by-take-le (λ (n : ℕ). n) level (suc place * FAN) in
    omega arith

-- so what is searched for lies there after what stands before the group
pub group_has : (levels : List (List ℕ)) (k depth place rest : ℕ) → AreSums levels → 0 < depth → IsAt levels k depth place rest
    → sum (take (place * FAN) (level_at levels (depth - 1))) + rest < sum (level_at levels (depth - 1))
group_has levels k depth place rest sums some at =
    let group : sum (take (place * FAN) (level_at levels (depth - 1))) + get_or (level_at levels depth) place 0 ≤ sum (level_at levels (depth - 1)) = group_fits levels depth place sums some at.inside in
    let within = at.within in
    omega arith

-- and where it is found the search goes on
pub goes_down : (levels : List (List ℕ)) (k depth place rest next left : ℕ) → AreSums levels → 0 < depth → IsAt levels k depth place rest
    → IsKth (level_at levels (depth - 1)) (place * FAN) rest next left → IsAt levels k (depth - 1) next left
goes_down levels k depth place rest next left sums some at found =
    let same : sum (take place (level_at levels depth)) ≡ sum (take (place * FAN) (level_at levels (depth - 1)))
    = grouped_before (level_at levels (depth - 1)) (level_at levels depth) place (step_down levels depth sums some at.inside) in
    let before = at.before in
    let inside = at.inside in
    let on = found.before in
    record { inside = omega arith; before = omega arith; within = found.within }

-- the place where a search is fits
pub place_fits : (levels : List (List ℕ)) (k depth place rest : ℕ) → AreSums levels → IsAt levels k depth place rest → place < 2 ^ 32
place_fits levels k depth place rest sums at =
    let few = sums.few depth in
    let inside = there (level_at levels depth) place rest at.within in
    omega arith
