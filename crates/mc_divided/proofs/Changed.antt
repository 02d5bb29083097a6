-- Runs that change one after another.
use Rattle.std.proofs.Common.{◌≡◌, inl, inr, ◌<◌, ◌≤◌, ◌+◌, ℕ, Some, List, length, slice_get, slice_set, refl, ap, sym, ◌∙◌, subst, arith}
use Rattle.std.proofs.lemmas.Option.{slice_get_within}
use Rattle.mc_part.specs.Phases.{EachChanged}
use Rattle.mc_part.specs.declared.part_run.PartRun.{PartRun}
use Rattle.mc_divided.proofs.Lists.{get_other, one_of, same_or_not, set_here, set_length}

-- the first so many have changed, the others not yet
pub record ChangedSoFar (R : PartRun → PartRun → Type 0) (k : ℕ) (old now : List PartRun) : Type 0 where
  pub count : length now ≡ length old
  pub done : (i : ℕ) (a b : PartRun) → i < k → slice_get old i ≡ Some a → slice_get now i ≡ Some b → R a b
  pub rest : (i : ℕ) → k ≤ i → slice_get now i ≡ slice_get old i

pub none_changed : (R : PartRun → PartRun → Type 0) (runs : List PartRun) → ChangedSoFar R 0 runs runs
none_changed R runs = record { count = refl; done = λ i a b below p q. absurd (omega (arith, below)); rest = λ i past. refl }

pub next_changed : (R : PartRun → PartRun → Type 0) (k : ℕ) (old now : List PartRun) (a b : PartRun) → slice_get now k ≡ Some a → R a b → ChangedSoFar R k old now → ChangedSoFar R (k + 1) old (slice_set now k b)
next_changed R k old now a b there changed so_far = record {
  count = set_length now k b ∙ so_far.count;
  done = done;
  rest = λ i past. get_other now k i b (λ same. absurd (omega (arith, past, same))) ∙ so_far.rest i (omega (arith, past));
}
  where
    done : (i : ℕ) (x y : PartRun) → i < k + 1 → slice_get old i ≡ Some x → slice_get (slice_set now k b) i ≡ Some y → R x y
    done i x y below p q = elim (same_or_not i k) [
      | inl same ↦
          subst (λ (r : PartRun). R r y) (one_of (slice_get old i) a x (sym (so_far.rest i (omega (arith, same))) ∙ (ap (λ (n : ℕ). slice_get now n) same ∙ there)) p)
          (subst (λ (r : PartRun). R a r) (one_of (slice_get (slice_set now k b) i) b y (ap (λ (n : ℕ). slice_get (slice_set now k b) n) same ∙ set_here now k a b there) q) changed)
      | inr off ↦ so_far.done i x y (omega (arith, below, off)) p (sym (get_other now k i b off) ∙ q)
    ]

pub all_changed : (R : PartRun → PartRun → Type 0) (k : ℕ) (old now : List PartRun) → length old ≤ k → ChangedSoFar R k old now → EachChanged R old now
all_changed R k old now past so_far = record {
  count = so_far.count;
  each = λ i a b p q. so_far.done i a b (let below = slice_get_within old i a p in omega (arith, below, past)) p q;
}
