-- Of more numbers than there are values for them, two have the same value.
use Rattle.std.proofs.Common.{◌≡◌, ◌≢◌, ◌<◌, ◌≤◌, ◌==◌, ◌⊎◌, inl, inr, ℕ, zero, suc, if◌then◌else◌, subst, arith}
use Rattle.std.proofs.lemmas.Bool.{cases_eq}
use Rattle.std.proofs.lemmas.Grind.{common_steps}

-- two numbers, neither above the last, with the same value
pub record Repeated (f : ℕ → ℕ) (last : ℕ) : Type 0 where
  pub first : ℕ
  pub second : ℕ
  pub apart : first < second
  pub within : second ≤ last
  pub same : f first ≡ f second

-- one of the first so many numbers has this value, or none has
has_value : (f : ℕ → ℕ) (value count : ℕ) → ((k : ℕ) × (k < count) × (f k ≡ value)) ⊎ ((k : ℕ) → k < count → f k ≢ value)
has_value f value zero = inr (λ k below same. absurd (omega (arith, below)))
has_value f value (suc count) = elim (cases_eq (f count) value) [
  | inl same ↦ inl (count, omega arith, same)
  | inr other ↦ elim (has_value f value count) [
    | inl found ↦ inl (found.0, omega (arith, found.1), found.2)
    | inr none ↦
        inr (λ k below same. elim (cases_eq k count) [
          | inl last ↦ other (subst (λ (n : ℕ). f n ≡ value) last same)
          | inr before ↦ none k (omega (arith, below, before)) same
        ])
  ]
]

-- another value in place of the top one
abbrev in_place : ℕ → ℕ → ℕ → ℕ
in_place top other value = if value == top then other else value

in_place_below : (top other value : ℕ) → value < suc top → other < suc top → value ≢ other → in_place top other value < top
in_place_below top other value one two apart = grind (arith, common_steps)

-- values that differ from the other one stay apart
in_place_same : (top other a b : ℕ) → a ≢ other → b ≢ other → in_place top other a ≡ in_place top other b → a ≡ b
in_place_same top other a b one two same = grind (arith, common_steps)

pub repeated : (last : ℕ) (f : ℕ → ℕ) → ((k : ℕ) → k ≤ last → f k < last) → Repeated f last
repeated zero f below = absurd (omega (arith, below 0 (omega arith)))
repeated (suc last) f below = elim (has_value f (f (suc last)) (suc last)) [
  | inl found ↦ record { first = found.0; second = suc last; apart = found.1; within = omega arith; same = found.2 }
  | inr none ↦
      let rest : Repeated (λ k. in_place last (f (suc last)) (f k)) last =
      repeated last (λ k. in_place last (f (suc last)) (f k))
      (λ k within. in_place_below last (f (suc last)) (f k) (below k (omega (arith, within))) (below (suc last) (omega arith)) (none k (omega (arith, within)))) in
      record {
        first = rest.first;
        second = rest.second;
        apart = rest.apart;
        within = omega (arith, rest.within);
        same = in_place_same last (f (suc last)) (f rest.first) (f rest.second) (none rest.first (omega (arith, rest.apart, rest.within))) (none rest.second (omega (arith, rest.within))) rest.same;
      }
]
