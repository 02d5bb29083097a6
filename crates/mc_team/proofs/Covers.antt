-- Numbers that a function gives: it gives no more than it is given.
use Rattle.std.proofs.Common.{◌≡◌, ◌≢◌, ◌<◌, ◌≤◌, ◌==◌, inl, inr, if◌then◌else◌, ℕ, zero, suc, sym, ◌∙◌, ap, arith}
use Rattle.std.proofs.lemmas.Bool.{cases_eq}
use Rattle.std.proofs.lemmas.Grind.{common_steps}

-- each number below the one is given at a number below the other
abbrev pub Covers : ℕ → ℕ → (ℕ → ℕ) → Type 0
Covers n m g = (e : ℕ) → e < m → (l : ℕ) × (l < n) × (g l ≡ e)

-- where the greatest number was given, what stands in its place
without : ℕ → ℕ → (ℕ → ℕ) → ℕ → ℕ
without j v g l = if g l == j then v else g l

keeps : (j v : ℕ) (g : ℕ → ℕ) (l e : ℕ) → g l ≡ e → e ≢ j → without j v g l ≡ e
unfolding without
keeps j v g l e is off = grind (arith, common_steps)

replaces : (j v : ℕ) (g : ℕ → ℕ) (l : ℕ) → g l ≡ j → without j v g l ≡ v
unfolding without
replaces j v g l is = grind (arith, common_steps)

fewer : (n j : ℕ) (g : ℕ → ℕ) → Covers (suc n) (suc j) g → Covers n j (without j (g n) g)
fewer n j g covers e below =
    let here : (l : ℕ) × (l < suc n) × (g l ≡ e) = covers e (omega arith) in
    elim (cases_eq here.0 n) [
      | inl last ↦
          let top : (l : ℕ) × (l < suc n) × (g l ≡ j) = covers j (omega arith) in
          let value : g n ≡ e = ap g (sym last) ∙ here.2 in
          elim (cases_eq top.0 n) [
            | inl same ↦ let both : g n ≡ j = ap g (sym same) ∙ top.2 in absurd (omega arith)
            | inr off ↦ let low : top.0 < n = omega (arith, top.1, off) in (top.0, low, replaces j (g n) g top.0 top.2 ∙ value)
          ]
      | inr off ↦ let low : here.0 < n = omega (arith, here.1, off) in let other : e ≢ j = omega arith in (here.0, low, keeps j (g n) g here.0 e here.2 other)
    ]

pub covers_fit : (n m : ℕ) (g : ℕ → ℕ) → Covers n m g → m ≤ n
covers_fit zero zero g covers = omega arith
covers_fit zero (suc m) g covers = let here = covers zero (omega arith) in absurd (omega (arith, here.1))
covers_fit (suc n) zero g covers = omega arith
covers_fit (suc n) (suc j) g covers = let rest : j ≤ n = covers_fit n j (without j (g n) g) (fewer n j g covers) in omega arith
