-- A tree of sums, built level by level.
use Rattle.std.proofs.Common.{◌≡◌, ◌<◌, ◌≤◌, ◌+◌, ◌-◌, ◌*◌, ◌/◌, ◌%◌, ◌^◌, ◌++◌, inl, inr, ℕ, List, [], ◌∷◌, length, min, sum, take, drop, ap, sym, ◌∙◌, subst, arith}
use Rattle.std.proofs.Math.ListN.{get_or}
use Rattle.std.proofs.Math.Seq.{take-nil}
use Rattle.std.proofs.lemmas.Bool.{cases_lt, cases_eq}
use Rattle.std.proofs.lemmas.List.{drop_all, get_or_append_left, get_or_past, get_or_push, length_push}
use Rattle.std.proofs.lemmas.List.Sums.{sum_by-take-drop, sum_by-take-le}
use Rattle.std.specs.Fork.{slice_chunk}
use Rattle.mc_sums.specs.Sums.{AreGroupSums, AreSmallSums, level_at}
use Rattle.mc_sums.specs.declared.levels.TheConstants.{FAN}
use Rattle.mc_sums.specs.declared.limit.TheConstants.{COUNT_LIMIT}
use Rattle.mc_sums.proofs.TreeSums.{grouped_sum, small_fits}

-- ---- one level

-- it has no more numbers than before
pub grouped_few : (level above : List ℕ) (most : ℕ) → AreGroupSums level above → length level ≤ most → length above ≤ most
grouped_few level above most sums few = let long = sums.long in omega arith

-- and fewer, where there were several
pub grouped_less : (level above : List ℕ) → AreGroupSums level above → 1 < length level → length above < length level
grouped_less level above sums some = let long = sums.long in omega arith

-- a part of a level has no more than the whole
pub part_small : (level : List ℕ) (first count limit : ℕ) → sum level < limit → sum (take count (drop first level)) < limit
part_small level first count limit low =
    let part : sum (take count (drop first level)) ≤ sum (drop first level) = sum_by-take-le (λ (n : ℕ). n) (drop first level) count in
    let both : sum (take first level) + sum (drop first level) ≡ sum level = sum_by-take-drop (λ (n : ℕ). n) level first in
    omega arith

-- past the last group there is nothing
past_groups : (level : List ℕ) (group : ℕ) → length level ≤ group * FAN → sum (slice_chunk level FAN group) ≡ 0
past_groups level group past = ap (λ (l : List ℕ). sum (take FAN l)) (drop_all (group * FAN) level past) ∙ ap sum (take-nil FAN)

-- the sums of so many groups
pub record SumsFirst (level above : List ℕ) (groups : ℕ) : Type 0 where
  pub long : length above ≡ groups
  pub each : (group : ℕ) → group < groups → get_or above group 0 ≡ sum (slice_chunk level FAN group)

-- one more of them
pub group_pushed : (level above more : List ℕ) (groups number : ℕ) → SumsFirst level above groups → number ≡ sum (slice_chunk level FAN groups) → more ≡ above ++ number ∷ [] → SumsFirst level more (groups + 1)
group_pushed level above more groups number so_far is pushed = subst (λ (l : List ℕ). SumsFirst level l (groups + 1)) (sym pushed) (record {
  long = let one : length (above ++ number ∷ []) ≡ length above + 1 = length_push above number in let long = so_far.long in omega arith;
  each = λ group low. elim (cases_eq group groups) [
    | inl same ↦ get_or_push above number 0 group (let long = so_far.long in omega arith) ∙ (is ∙ ap (λ (n : ℕ). sum (slice_chunk level FAN n)) (sym same))
    | inr apart ↦ get_or_append_left above (number ∷ []) 0 group (let long = so_far.long in omega arith) ∙ so_far.each group (omega arith)
  ];
})

-- all of them
pub groups_all : (level above : List ℕ) (groups end : ℕ) → end ≡ length level / FAN + min 1 (length level % FAN) → groups ≡ end → SumsFirst level above groups → AreGroupSums level above
groups_all level above groups end ends is so_far =
    let long : length above ≡ end = so_far.long ∙ is in
    record {
      long = long ∙ ends;
      each = λ group. elim (cases_lt group groups) [
        | inl below ↦ so_far.each group below
        | inr past ↦ get_or_past above group 0 (omega arith) ∙ sym (past_groups level group (omega arith))
      ];
    }

-- ---- level by level

-- the levels so far, of which this is the last
pub record IsBuilt (counts : List ℕ) (all : List (List ℕ)) (level : List ℕ) : Type 0 where
  pub some : 0 < length all
  pub groups : (depth : ℕ) → depth + 1 < length all → AreGroupSums (level_at all depth) (level_at all (depth + 1))
  pub few : (depth : ℕ) → length (level_at all depth) ≤ 2 ^ 32
  pub many : (depth : ℕ) → depth + 1 < length all → 1 < length (level_at all depth)
  pub last : (depth : ℕ) → depth + 1 ≡ length all → level_at all depth ≡ level
  pub bottom : level_at all 0 ≡ counts
  pub same : sum level ≡ sum counts

-- past the end there is no level
past_none : (all : List (List ℕ)) (depth : ℕ) → length all ≤ depth → level_at all depth ≡ []
past_none all depth past = get_or_past all depth [] past

-- one level more
more_few : (counts : List ℕ) (all : List (List ℕ)) (level above : List ℕ) (depth : ℕ) → AreGroupSums level above → IsBuilt counts all level → length (level_at (all ++ above ∷ []) depth) ≤ 2 ^ 32
more_few counts all level above depth sums built = elim (cases_lt depth (length all)) [
  | inl below ↦ subst (λ (l : List ℕ). length l ≤ 2 ^ 32) (sym (get_or_append_left all (above ∷ []) [] depth below)) (built.few depth)
  | inr high ↦ elim (cases_eq depth (length all)) [
    | inl same ↦
        subst (λ (l : List ℕ). length l ≤ 2 ^ 32) (sym (get_or_push all above [] depth (sym same)))
        (grouped_few level above (2 ^ 32) sums (subst (λ (l : List ℕ). length l ≤ 2 ^ 32) (built.last (length all - 1) (let some = built.some in omega arith)) (built.few (length all - 1))))
    | inr apart ↦
        let count : length (all ++ above ∷ []) ≡ length all + 1 = length_push all above in
        subst (λ (l : List ℕ). length l ≤ 2 ^ 32) (sym (past_none (all ++ above ∷ []) depth (omega arith))) (omega arith)
  ]
]

more_groups : (counts : List ℕ) (all : List (List ℕ)) (level above : List ℕ) (depth : ℕ) → AreGroupSums level above → IsBuilt counts all level → depth + 1 < length all + 1
    → AreGroupSums (level_at (all ++ above ∷ []) depth) (level_at (all ++ above ∷ []) (depth + 1))
more_groups counts all level above depth sums built low =
    let here : level_at (all ++ above ∷ []) depth ≡ level_at all depth = get_or_append_left all (above ∷ []) [] depth (omega arith) in
    subst (λ (l : List ℕ). AreGroupSums l (level_at (all ++ above ∷ []) (depth + 1))) (sym here) (elim (cases_lt (depth + 1) (length all)) [
      | inl below ↦ subst (AreGroupSums (level_at all depth)) (sym (get_or_append_left all (above ∷ []) [] (depth + 1) below)) (built.groups depth below)
      | inr high ↦
          let is : length all ≡ depth + 1 = omega arith in
          subst (AreGroupSums (level_at all depth)) (sym (get_or_push all above [] (depth + 1) is)) (subst (λ (l : List ℕ). AreGroupSums l above) (sym (built.last depth (sym is))) sums)
    ])

more_many : (counts : List ℕ) (all : List (List ℕ)) (level above : List ℕ) (depth : ℕ) → 1 < length level → IsBuilt counts all level → depth + 1 < length all + 1
    → 1 < length (level_at (all ++ above ∷ []) depth)
more_many counts all level above depth several built low =
    subst (λ (l : List ℕ). 1 < length l) (sym (get_or_append_left all (above ∷ []) [] depth (omega arith))) (elim (cases_lt (depth + 1) (length all)) [
      | inl below ↦ built.many depth below
      | inr high ↦ subst (λ (l : List ℕ). 1 < length l) (sym (built.last depth (omega arith))) several
    ])

pub build_more : (counts : List ℕ) (all : List (List ℕ)) (level above : List ℕ) → AreGroupSums level above → 1 < length level → IsBuilt counts all level → IsBuilt counts (all ++ above ∷ []) above
build_more counts all level above sums several built =
    let count : length (all ++ above ∷ []) ≡ length all + 1 = length_push all above in
    record {
      some = omega arith;
      groups = λ depth low. more_groups counts all level above depth sums built (subst (λ (n : ℕ). depth + 1 < n) count low);
      few = λ depth. more_few counts all level above depth sums built;
      many = λ depth low. more_many counts all level above depth several built (subst (λ (n : ℕ). depth + 1 < n) count low);
      last = λ depth is. get_or_push all above [] depth (omega arith);
      bottom = get_or_append_left all (above ∷ []) [] 0 built.some ∙ built.bottom;
      same = grouped_sum level above sums ∙ built.same;
    }

-- as code does it: the last level is put after the others, and the next one is made of it
pub build_pushed : (counts : List ℕ) (all levels : List (List ℕ)) (level above : List ℕ) → IsBuilt counts (all ++ level ∷ []) level → levels ≡ all ++ level ∷ [] → AreGroupSums level above → 1 < length level → IsBuilt counts (levels ++ above ∷ []) above
build_pushed counts all levels level above built pushed sums several = subst (λ (l : List (List ℕ)). IsBuilt counts (l ++ above ∷ []) above) (sym pushed) (build_more counts (all ++ level ∷ []) level above sums several built)

-- when the last level has one number at most, all is there
pub build_ends : (counts : List ℕ) (all : List (List ℕ)) (level : List ℕ) → length level ≤ 1 → ((place : ℕ) → get_or counts place 0 ≤ COUNT_LIMIT) → IsBuilt counts all level → AreSmallSums all
build_ends counts all level one small built = record {
  sums = record {
    some = built.some;
    groups = built.groups;
    few = built.few;
    many = built.many;
    top = subst (λ (l : List ℕ). length l ≤ 1) (sym (built.last (length all - 1) (let some = built.some in omega arith))) one;
  };
  small = λ place. subst (λ (l : List ℕ). get_or l place 0 ≤ COUNT_LIMIT) (sym built.bottom) (small place);
}

-- what is built of few small counts fits
pub built_fits : (counts : List ℕ) (all : List (List ℕ)) (level : List ℕ) → length counts ≤ 2 ^ 32 → ((place : ℕ) → get_or counts place 0 ≤ COUNT_LIMIT) → IsBuilt counts all level → sum level < 2 ^ 63
built_fits counts all level few small built = subst (λ (n : ℕ). n < 2 ^ 63) (sym built.same) (small_fits counts few small)
