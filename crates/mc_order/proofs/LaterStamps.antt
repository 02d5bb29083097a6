-- A greater stamp stands later.
use Rattle.std.proofs.Common.{◌≡◌, ℕ, zero, suc, ◌+◌, ◌<◌, ◌≤◌, List, [], ◌∷◌, Some, slice_get, length, slice_index_or, arith, subst, false}
use Rattle.std.proofs.lemmas.Grind.{common_steps}
use Rattle.std.specs.List.Sorted.{IsSorted, IsSortedByKey}
use Rattle.std.specs.Ordering.{is_lt, nat_cmp}
use Rattle.std.proofs.lemmas.List.Sorted.{IsNonDecreasingBy-from_sort}
use Rattle.mc_order.specs.declared.Key.{Key}
use Rattle.mc_order.specs.Keys.{key_cmp, StampsRise}
use Rattle.mc_order.specs.OneOrder.{LaterStands}

not_lower_stamp : (x y : Key) → is_lt (key_cmp x y) ≡ false → is_lt (nat_cmp x.stamp y.stamp) ≡ false
not_lower_stamp x y e = grind (arith, common_steps)

inside : {X : Type 0} (xs : List X) (i : ℕ) (x : X) → slice_get xs i ≡ Some x → i < length xs
inside [] i x e = cc
inside (y ∷ ys) zero x e = omega arith
inside (y ∷ ys) (suc i) x e = let rest = inside ys i x e in omega arith

read : {X : Type 0} (xs : List X) (i : ℕ) (x d : X) → slice_get xs i ≡ Some x → slice_index_or xs i d ≡ x
read [] i x d e = cc
read (y ∷ ys) zero x d e = cc
read (y ∷ ys) (suc i) x d e = read ys i x d e

not_le : (i j : ℕ) → (j ≤ i → ⊥) → i < j
not_le i j h = grind arith

pub rises : (keys : List Key) → IsSorted key_cmp keys → StampsRise keys
rises keys sorted i j a b at_i at_j less =
    let by_stamp : IsSortedByKey (λ (key : Key). key.stamp) nat_cmp keys = λ k d low high. let pair = sorted k d low high in not_lower_stamp (slice_index_or keys (k + 1) d) (slice_index_or keys k d) pair in
    let rising = IsNonDecreasingBy-from_sort (λ (key : Key). key.stamp) keys by_stamp in
    let swapped : j ≤ i → b.stamp ≤ a.stamp = λ le. subst (λ (v : Key). v.stamp ≤ a.stamp) (read keys j b a at_j) (subst (λ (u : Key). (slice_index_or keys j a).stamp ≤ u.stamp) (read keys i a a at_i) (rising j i a le (inside keys i a at_i))) in
    not_le i j (λ le. absurd (omega (arith, swapped le)))

pub later_stands : LaterStands
later_stands logs keys ordered = rises keys ordered.sorted
