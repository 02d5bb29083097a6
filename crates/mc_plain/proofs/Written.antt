-- One item more is written in front of what was there.
use Rattle.std.proofs.Common.{◌≡◌, ℕ, suc, zero, ◌+◌, ◌<◌, List, [], ◌∷◌, ◌++◌, length, map, take, drop, slice_set, get_or, refl, ap, arith, ◌≤◌}
use Rattle.std.specs.Prelude.{replicate}
use Rattle.std.proofs.lemmas.List.{replicate-append-replicate}
use Rattle.std.proofs.lemmas.Slice.{drop-append-drop}

module _ {A B : Type 0} (f : A → B) where
  next : (i : ℕ) (xs : List A) (ys : List B) (x : A) (rest : List A) → drop i xs ≡ x ∷ rest → i < length ys
      → slice_set (map f (take i xs) ++ drop i ys) i (f x) ≡ map f (take (suc i) xs) ++ drop (suc i) ys
  next zero [] ys x rest e l = absurd (cc)
  next zero (x' ∷ xs) [] x rest e l = absurd (omega arith)
  next zero (x' ∷ xs) (y ∷ ys) x rest e l = let same : x' ≡ x = cc in rw same refl
  next (suc i) [] ys x rest e l = absurd (cc)
  next (suc i) (x' ∷ xs) [] x rest e l = absurd (omega arith)
  next (suc i) (x' ∷ xs) (y ∷ ys) x rest e l = ap (λ (zs : List B). f x' ∷ zs) (next i xs ys x rest e (omega arith))

  pub written_next : (i : ℕ) (xs : List A) (ys zs : List B) (x : A) (rest : List A) → drop i xs ≡ x ∷ rest → i < length ys → zs ≡ map f (take i xs) ++ drop i ys
      → slice_set zs i (f x) ≡ map f (take (i + 1) xs) ++ drop (i + 1) ys
  written_next i xs ys zs x rest e l is =
      let on : i + 1 ≡ suc i = omega arith in
      rw is (rw on (next i xs ys x rest e l))

module _ {A : Type 0} where
  pub drop_next : (i : ℕ) (xs : List A) (x : A) (rest : List A) → drop i xs ≡ x ∷ rest → drop (i + 1) xs ≡ rest
  drop_next i xs x rest e = let on : i + 1 ≡ suc i = omega arith in rw on (by i xs e)
    where
      by : (i : ℕ) (xs : List A) → drop i xs ≡ x ∷ rest → drop (suc i) xs ≡ rest
      by zero [] e = absurd (cc)
      by zero (y ∷ xs) e = cc
      by (suc i) [] e = absurd (cc)
      by (suc i) (y ∷ xs) e = by i xs e

  -- what is read at a place is the first of what comes from there on
  pub drop_read : (xs : List A) (i : ℕ) (x : A) → i < length xs → x ≡ get_or xs i x → drop i xs ≡ x ∷ drop (i + 1) xs
  drop_read xs i x l is = let on : i + 1 ≡ suc i = omega arith in rw on (by xs i x l is)
    where
      by : (xs : List A) (i : ℕ) (x : A) → i < length xs → x ≡ get_or xs i x → drop i xs ≡ x ∷ drop (suc i) xs
      by [] i x l is = absurd (omega arith)
      by (y ∷ xs) zero x l is = cc
      by (y ∷ xs) (suc i) x l is = by xs i x (omega arith) is

  -- where nothing comes from a place on, all is before it
  pub drop_none : (xs : List A) (i : ℕ) → drop i xs ≡ [] → i < length xs → ⊥
  drop_none [] i e l = omega arith
  drop_none (x ∷ xs) zero e l = cc
  drop_none (x ∷ xs) (suc i) e l = drop_none xs i e (omega arith)

  -- all of a list is the same item
  pub alike : (y : A) (n : ℕ) (xs : List A) → n ≤ length xs → map (λ (x : A). y) (take n xs) ≡ replicate n y
  alike y zero xs l = refl
  alike y (suc n) [] l = absurd (omega arith)
  alike y (suc n) (x ∷ xs) l = ap (λ (zs : List A). y ∷ zs) (alike y n xs (omega arith))

  pub alike_length : (y : A) (n : ℕ) (xs : List A) → n ≤ length xs → length (map (λ (x : A). y) (take n xs)) ≡ n
  alike_length y zero xs l = refl
  alike_length y (suc n) [] l = absurd (omega arith)
  alike_length y (suc n) (x ∷ xs) l = ap suc (alike_length y n xs (omega arith))

  -- what comes from a place on is as it was, where all before it is overwritten
  pub drop_after : (y : A) (n : ℕ) (xs zs : List A) → n ≤ length xs → zs ≡ map (λ (x : A). y) (take n xs) ++ drop n xs → drop n zs ≡ drop n xs
  drop_after y n xs zs l is = rw is (drop-append-drop n xs (map (λ (x : A). y) (take n xs)) n (omega arith) (alike_length y n xs l))

  -- where the rest was blank, all is
  pub all_blank : (y : A) (n m : ℕ) (xs zs : List A) → n ≤ length xs → drop n xs ≡ replicate m y → zs ≡ map (λ (x : A). y) (take n xs) ++ drop n xs → zs ≡ replicate (n + m) y
  all_blank y n m xs zs l rest is = rw is (rw rest (rw (alike y n xs l) (replicate-append-replicate n m y)))

  pub same_length : (y : A) (n : ℕ) (xs : List A) → length (map (λ (x : A). y) (take n xs) ++ drop n xs) ≡ length xs
  same_length y zero xs = refl
  same_length y (suc n) [] = refl
  same_length y (suc n) (x ∷ xs) = ap suc (same_length y n xs)

  pub long : (n : ℕ) (xs : List A) → length (take n xs) ≡ n → n ≤ length xs
  long zero xs e = omega arith
  long (suc n) [] e = absurd (omega (arith, e))
  long (suc n) (x ∷ xs) e = let rest : n ≤ length xs = long n xs (omega (arith, e)) in omega (arith, rest)
