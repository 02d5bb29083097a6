-- Elements of a list that pass a test, by how many before them pass it.
use Rattle.std.proofs.Common.{◌≡◌, ◌<◌, Bool, true, false, cond, filter, ℕ, zero, suc, Some, List, [], ◌∷◌, length, take, refl, ap, sym, ◌∙◌, arith, true≢false}
use Rattle.std.proofs.lemmas.Option.{none-some, same_Some}
use Rattle.std.specs.List.{slice_get}
use Rattle.mc_part.specs.Divisions.{rank}

-- ---- one that passes is found at its rank

found_here : {A : Type 0} (b : Bool) (y x : A) (ys : List A) → b ≡ true → Some y ≡ Some x → slice_get (cond b (y ∷ ys) ys) 0 ≡ Some x
found_here true y x ys passes is = is
found_here false y x ys passes is = absurd (true≢false (sym passes))

found_later : {A : Type 0} (b : Bool) (y x : A) (ys zs : List A) → slice_get ys (length zs) ≡ Some x → slice_get (cond b (y ∷ ys) ys) (length (cond b (y ∷ zs) zs)) ≡ Some x
found_later true y x ys zs is = is
found_later false y x ys zs is = is

pub rank_found : {A : Type 0} (test : A → Bool) (xs : List A) (c : ℕ) (x : A) → slice_get xs c ≡ Some x → test x ≡ true → slice_get (filter test xs) (rank test c xs) ≡ Some x
rank_found test [] c x is passes = absurd (none-some x is)
rank_found test (y ∷ xs) zero x is passes = found_here (test y) y x (filter test xs) (ap test (same_Some y x is) ∙ passes) is
rank_found test (y ∷ xs) (suc c) x is passes = found_later (test y) y x (filter test xs) (filter test (take c xs)) (rank_found test xs c x is passes)

-- ---- and what is found passes

pub record Found {A : Type 0} (test : A → Bool) (xs : List A) (k : ℕ) (x : A) : Type 0 where
  pub at : ℕ
  pub is : slice_get xs at ≡ Some x
  pub passes : test x ≡ true
  pub rank_is : rank test at xs ≡ k

back_later : {A : Type 0} (test : A → Bool) (y : A) (xs : List A) (k : ℕ) (x : A) → test y ≡ false → Found test xs k x → Found test (y ∷ xs) k x
back_later test y xs k x fails found = record {
  at = suc found.at;
  is = found.is;
  passes = found.passes;
  rank_is = ap (λ (b : Bool). length (cond b (y ∷ filter test (take found.at xs)) (filter test (take found.at xs)))) fails ∙ found.rank_is;
}

back_more : {A : Type 0} (test : A → Bool) (y : A) (xs : List A) (k : ℕ) (x : A) → test y ≡ true → Found test xs k x → Found test (y ∷ xs) (suc k) x
back_more test y xs k x passes found = record {
  at = suc found.at;
  is = found.is;
  passes = found.passes;
  rank_is = ap (λ (b : Bool). length (cond b (y ∷ filter test (take found.at xs)) (filter test (take found.at xs)))) passes ∙ ap suc found.rank_is;
}

back_by : {A : Type 0} (b : Bool) (test : A → Bool) (y : A) (xs : List A) (k : ℕ) (x : A) → test y ≡ b
    → ((j : ℕ) → slice_get (filter test xs) j ≡ Some x → Found test xs j x)
    → slice_get (cond b (y ∷ filter test xs) (filter test xs)) k ≡ Some x → Found test (y ∷ xs) k x
back_by true test y xs zero x b_is rest is = record { at = 0; is = is; passes = ap test (sym (same_Some y x is)) ∙ b_is; rank_is = refl }
back_by true test y xs (suc k) x b_is rest is = back_more test y xs k x b_is (rest k is)
back_by false test y xs k x b_is rest is = back_later test y xs k x b_is (rest k is)

pub rank_back : {A : Type 0} (test : A → Bool) (xs : List A) (k : ℕ) (x : A) → slice_get (filter test xs) k ≡ Some x → Found test xs k x
rank_back test [] k x is = absurd (none-some x is)
rank_back test (y ∷ xs) k x is = back_by (test y) test y xs k x refl (λ j there. rank_back test xs j x there) is

-- ---- different ones have different ranks

first_less : {A : Type 0} (b : Bool) (y : A) (ys : List A) → b ≡ true → 0 < length (cond b (y ∷ ys) ys)
first_less true y ys passes = omega arith
first_less false y ys passes = absurd (true≢false (sym passes))

both_less : {A : Type 0} (b : Bool) (y : A) (ys zs : List A) → length (cond b (y ∷ ys) ys) ≡ length (cond b (y ∷ zs) zs) → length ys ≡ length zs
both_less true y ys zs same = omega arith
both_less false y ys zs same = same

pub rank_apart : {A : Type 0} (test : A → Bool) (xs : List A) (c d : ℕ) (x y : A) → slice_get xs c ≡ Some x → slice_get xs d ≡ Some y
    → test x ≡ true → test y ≡ true → rank test c xs ≡ rank test d xs → c ≡ d
rank_apart test [] c d x y one two first second same = absurd (none-some x one)
rank_apart test (z ∷ xs) zero zero x y one two first second same = refl
rank_apart test (z ∷ xs) zero (suc d) x y one two first second same =
    let some = first_less (test z) z (filter test (take d xs)) (ap test (same_Some z x one) ∙ first) in
    absurd (omega (arith, some, same))
rank_apart test (z ∷ xs) (suc c) zero x y one two first second same =
    let some = first_less (test z) z (filter test (take c xs)) (ap test (same_Some z y two) ∙ second) in
    absurd (omega (arith, some, same))
rank_apart test (z ∷ xs) (suc c) (suc d) x y one two first second same =
    ap suc (rank_apart test xs c d x y one two first second (both_less (test z) z (filter test (take c xs)) (filter test (take d xs)) same))
