-- Two trees of sums with as many places, searched at once.
use Rattle.std.proofs.Common.{◌≡◌, ◌<◌, ◌≤◌, ◌+◌, ◌-◌, ◌*◌, ◌^◌, inl, inr, ℕ, zero, suc, List, length, sum, take, add-one, ap, sym, ◌∙◌, subst, arith}
use Rattle.std.proofs.Math.ListN.{get_or}
use Rattle.std.proofs.lemmas.Bool.{cases_lt}
use Rattle.std.proofs.lemmas.List.{get_or_past}
use Rattle.std.specs.Int.{div_ceil}
use Rattle.mc_sums.specs.Sums.{AreKth, AreGroupSums, ArePair, AreSums, level_at}
use Rattle.mc_sums.specs.declared.levels.TheConstants.{FAN}
use Rattle.mc_sums.proofs.TreeSums.{group_fits, grouped_before, level_sum, step_down, top_is}

-- ---- their levels

-- level by level they are as long
record AreAsLong (levels others : List (List ℕ)) (depth : ℕ) : Type 0 where
  pub inside : depth < length others
  pub long : length (level_at levels depth) ≡ length (level_at others depth)

longer : (levels others : List (List ℕ)) (depth : ℕ) → AreGroupSums (level_at levels depth) (level_at levels (depth + 1)) → AreGroupSums (level_at others depth) (level_at others (depth + 1))
    → length (level_at levels depth) ≡ length (level_at others depth) → length (level_at levels (suc depth)) ≡ length (level_at others (suc depth))
longer levels others depth sums other_sums long =
    subst (λ (n : ℕ). length (level_at levels n) ≡ length (level_at others n)) (add-one depth) (sums.long ∙ (ap (λ (n : ℕ). div_ceil n FAN) long ∙ sym other_sums.long))

-- the last level of one isn't below that of the other
not_last : (levels others : List (List ℕ)) (depth : ℕ) → 1 < length (level_at levels depth) → length (level_at others (length others - 1)) ≤ 1 → depth + 1 ≡ length others
    → length (level_at levels depth) ≡ length (level_at others depth) → ⊥
not_last levels others depth several top last long =
    let same : length others - 1 ≡ depth = omega arith in
    let one : length (level_at others depth) ≤ 1 = subst (λ (n : ℕ). length (level_at others n) ≤ 1) same top in
    omega arith

alike_at : (levels others : List (List ℕ)) (depth : ℕ) → AreSums levels → AreSums others → length (level_at levels 0) ≡ length (level_at others 0) → depth < length levels → AreAsLong levels others depth
alike_at levels others zero sums other_sums long inside = record { inside = other_sums.some; long = long }
alike_at levels others (suc depth) sums other_sums long inside =
    let so_far : AreAsLong levels others depth = alike_at levels others depth sums other_sums long (omega arith) in
    elim (cases_lt (depth + 1) (length others)) [
      | inl below ↦ record { inside = omega arith; long = longer levels others depth (sums.groups depth (omega arith)) (other_sums.groups depth below) so_far.long }
      | inr high ↦ absurd (not_last levels others depth (sums.many depth (omega arith)) other_sums.top (let low = so_far.inside in omega arith) so_far.long)
    ]

-- so there are as many levels
pub as_many : (levels others : List (List ℕ)) → AreSums levels → AreSums others → length (level_at levels 0) ≡ length (level_at others 0) → length levels ≡ length others
as_many levels others sums other_sums long =
    let some = sums.some in
    let other_some = other_sums.some in
    let one : length levels - 1 < length others = (alike_at levels others (length levels - 1) sums other_sums long (omega arith)).inside in
    let two : length others - 1 < length levels = (alike_at others levels (length others - 1) other_sums sums (sym long) (omega arith)).inside in
    omega arith

-- each as long as that of the other
pub as_long : (levels others : List (List ℕ)) (depth : ℕ) → AreSums levels → AreSums others → length (level_at levels 0) ≡ length (level_at others 0) → depth < length levels
    → length (level_at levels depth) ≡ length (level_at others depth)
as_long levels others depth sums other_sums long inside = (alike_at levels others depth sums other_sums long inside).long

-- ---- the search

-- where it is
pub record IsAtBoth (levels others : List (List ℕ)) (k depth place rest : ℕ) : Type 0 where
  pub inside : depth < length levels
  pub before : sum (take place (level_at levels depth)) + sum (take place (level_at others depth)) + rest ≡ k
  pub within : rest < get_or (level_at levels depth) place 0 + get_or (level_at others depth) place 0

-- it begins at the top
pub both_start : (levels others : List (List ℕ)) (k : ℕ) → ArePair levels others → k < sum (level_at levels 0) + sum (level_at others 0) → IsAtBoth levels others k (length levels - 1) 0 k
both_start levels others k pair low =
    let top : get_or (level_at levels (length levels - 1)) 0 0 ≡ sum (level_at levels 0) = top_is levels pair.sums in
    let other_top : get_or (level_at others (length levels - 1)) 0 0 ≡ sum (level_at others 0) =
    subst (λ (n : ℕ). get_or (level_at others (n - 1)) 0 0 ≡ sum (level_at others 0)) (sym (as_many levels others pair.sums pair.other_sums pair.long)) (top_is others pair.other_sums) in
    record {
      inside = let some = pair.sums.some in omega arith;
      before = omega arith;
      within = omega arith;
    }

-- the other tree has a level there too
pub other_inside : (levels others : List (List ℕ)) (depth : ℕ) → ArePair levels others → depth < length levels → depth < length others
other_inside levels others depth pair inside = subst (λ (n : ℕ). depth < n) (as_many levels others pair.sums pair.other_sums pair.long) inside

-- one group and what stands before it is no more than a level
pub both_have : (levels others : List (List ℕ)) (k depth place rest : ℕ) → ArePair levels others → 0 < depth → IsAtBoth levels others k depth place rest
    → sum (take (place * FAN) (level_at levels (depth - 1))) + sum (take (place * FAN) (level_at others (depth - 1))) + rest < sum (level_at levels (depth - 1)) + sum (level_at others (depth - 1))
both_have levels others k depth place rest pair some at =
    let one : sum (take (place * FAN) (level_at levels (depth - 1))) + get_or (level_at levels depth) place 0 ≤ sum (level_at levels (depth - 1)) =
    group_fits levels depth place pair.sums some at.inside in
    let two : sum (take (place * FAN) (level_at others (depth - 1))) + get_or (level_at others depth) place 0 ≤ sum (level_at others (depth - 1)) =
    group_fits others depth place pair.other_sums some (other_inside levels others depth pair at.inside) in
    let within = at.within in
    omega arith

-- and where it is found the search goes on
pub both_go_down : (levels others : List (List ℕ)) (k depth place rest next left : ℕ) → ArePair levels others → 0 < depth → IsAtBoth levels others k depth place rest
    → AreKth (level_at levels (depth - 1)) (level_at others (depth - 1)) (place * FAN) rest next left → IsAtBoth levels others k (depth - 1) next left
both_go_down levels others k depth place rest next left pair some at found =
    let one : sum (take place (level_at levels depth)) ≡ sum (take (place * FAN) (level_at levels (depth - 1))) =
    grouped_before (level_at levels (depth - 1)) (level_at levels depth) place (step_down levels depth pair.sums some at.inside) in
    let two : sum (take place (level_at others depth)) ≡ sum (take (place * FAN) (level_at others (depth - 1))) =
    grouped_before (level_at others (depth - 1)) (level_at others depth) place (step_down others depth pair.other_sums some (other_inside levels others depth pair at.inside)) in
    let before = at.before in
    let inside = at.inside in
    let on = found.before in
    record { inside = omega arith; before = omega arith; within = found.within }

-- the place where a number of either stands is within both
pub both_there : (level other : List ℕ) (place rest : ℕ) → length level ≡ length other → rest < get_or level place 0 + get_or other place 0 → place < length level
both_there level other place rest long some = elim (cases_lt place (length level)) [
  | inl inside ↦ inside
  | inr past ↦
      let one : get_or level place 0 ≡ 0 = get_or_past level place 0 past in
      let two : get_or other place 0 ≡ 0 = get_or_past other place 0 (omega arith) in
      absurd (omega arith)
]

-- the place where a search is fits
pub both_fit : (levels others : List (List ℕ)) (k depth place rest : ℕ) → ArePair levels others → IsAtBoth levels others k depth place rest → place < 2 ^ 32
both_fit levels others k depth place rest pair at =
    let few = pair.sums.few depth in
    let inside : place < length (level_at levels depth) =
    both_there (level_at levels depth) (level_at others depth) place rest (as_long levels others depth pair.sums pair.other_sums pair.long at.inside) at.within in
    omega arith

-- levels have the sums of the counts
pub both_sums : (levels others : List (List ℕ)) (depth : ℕ) → ArePair levels others → depth < length levels → sum (level_at levels depth) + sum (level_at others depth) ≡ sum (level_at levels 0) + sum (level_at others 0)
both_sums levels others depth pair inside =
    let one : sum (level_at levels depth) ≡ sum (level_at levels 0) = level_sum levels depth pair.sums inside in
    let two : sum (level_at others depth) ≡ sum (level_at others 0) = level_sum others depth pair.other_sums (other_inside levels others depth pair inside) in
    omega arith
