-- What is left of a list.
use Rattle.std.proofs.Common.{◌≡◌, ℕ, zero, suc, ◌+◌, List, [], ◌∷◌, drop, Some, ap, ◌∙◌, arith}
use Rattle.std.specs.List.{slice_get}

drop_next : {X : Type 0} (xs : List X) (i : ℕ) (x : X) → Some x ≡ slice_get xs i → drop i xs ≡ x ∷ drop (suc i) xs
drop_next [] i x at = absurd (cc)
drop_next (y ∷ ys) zero x at =
    let same : y ≡ x = cc in
    ap (λ z. z ∷ ys) same
drop_next (y ∷ ys) (suc i) x at = drop_next ys i x at

pub drop_at : {X : Type 0} (xs : List X) (i : ℕ) (x : X) → Some x ≡ slice_get xs i → drop i xs ≡ x ∷ drop (i + 1) xs
drop_at xs i x at =
    let next : suc i ≡ i + 1 = omega arith in
    drop_next xs i x at ∙ ap (λ (n : ℕ). x ∷ drop n xs) next
