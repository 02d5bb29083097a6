-- The requests of an asker go on over the entries of a journal.
use Rattle.std.proofs.Common.{◌≡◌, ◌⊎◌, inl, inr, ◌==◌, if◌then◌else◌, Bool, true, false, ℕ, ◌+◌, List, [], ◌∷◌, ◌++◌, length, Option, Some, None, refl, ap, sym, ◌∙◌, subst, arith}
use Rattle.std.specs.List.{slice_set}
use Rattle.std.proofs.lemmas.Bool.{cases_eq}
use Rattle.std.proofs.lemmas.List.{get_or-set_same, get_or-set_other}
use Rattle.mc_shard.specs.States.{FitsAsked, after_entry, asked_after, last_request}
use Rattle.mc_shard.specs.declared.entry.Asked.{Asked}
use Rattle.mc_shard.specs.declared.entry.AtEnd.{AtEnd}
use Rattle.mc_shard_laws.specs.Askers.{GoOn, RequestsGoOn, asker_number, asker_numbers}
use Rattle.mc_shard_laws.proofs.Lanes.{other_test, same_test}

-- nothing of this asker, or its next one
abbrev AskerStep : ℕ → ℕ → List ℕ → Type 0
AskerStep before after numbers = ((numbers ≡ []) × (after ≡ before)) ⊎ ((numbers ≡ (before + 1) ∷ []) × (after ≡ before + 1))

picked : (test : Bool) (n : ℕ) → test ≡ true → (if test then n ∷ [] else []) ≡ n ∷ []
picked true n is = refl
picked false n is = absurd (cc)

left_out : (test : Bool) (n : ℕ) → test ≡ false → (if test then n ∷ [] else []) ≡ []
left_out true n is = absurd (cc)
left_out false n is = refl

one_step : (asker : ℕ) (asked : Option Asked) (taken : Option AtEnd) (last : List ℕ) → FitsAsked last asked taken
    → AskerStep (last_request last asker) (last_request (asked_after last asked) asker) (asker_number asker asked)
one_step asker None taken last fits = inl (refl, refl)
one_step asker (Some asked) (Some one) last fits = absurd fits
one_step asker (Some asked) None last fits = elim (cases_eq asked.asker asker) [
  | inl same ↦
      inr (
        picked (asked.asker == asker) asked.number (same_test asked.asker asker same)
            ∙ ap (λ (n : ℕ). n ∷ []) (fits.number ∙ ap (λ (a : ℕ). last_request last a + 1) same),
        subst (λ (a : ℕ). last_request (slice_set last asked.asker asked.number) a ≡ last_request last a + 1) same
            (get_or-set_same last asked.asker asked.number 0 fits.there ∙ fits.number),
      )
  | inr apart ↦
      inl (
        left_out (asked.asker == asker) asked.number (other_test asked.asker asker apart),
        get_or-set_other last asked.asker asker asked.number 0 (λ same. apart (sym same)),
      )
]

joined : (before after end : ℕ) (xs ys : List ℕ) → AskerStep before after xs → GoOn after end ys → GoOn before end (xs ++ ys)
joined before after end xs ys step rest = elim step [
  | inl both ↦
      subst (λ (l : List ℕ). GoOn before end (l ++ ys)) (sym both.0) (subst (λ (n : ℕ). GoOn n end ys) both.1 rest)
  | inr both ↦
      let from : GoOn (before + 1) end ys = subst (λ (n : ℕ). GoOn n end ys) both.1 rest in
      let last : end ≡ (before + 1) + length ys = from.last_is in
      subst (λ (l : List ℕ). GoOn before end (l ++ ys)) (sym both.0) (record {
        numbers_are = ap (λ (l : List ℕ). (before + 1) ∷ l) from.numbers_are;
        last_is = omega (arith, last);
      })
]

pub requests_go_on : RequestsGoOn
requests_go_on places first [] asker journal = record { numbers_are = refl; last_is = omega arith }
requests_go_on places first (entry ∷ entries) asker journal =
    joined _ _ _ (asker_number asker entry.asked) (asker_numbers asker entries)
    (one_step asker entry.asked entry.taken first.asked journal.0.asked)
    (requests_go_on places (after_entry first entry) entries asker journal.1)
