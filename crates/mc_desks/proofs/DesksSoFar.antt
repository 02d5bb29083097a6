-- Desks that are laid one by one.
use Rattle.std.proofs.Common.{◌≡◌, ℕ, zero, suc, ◌+◌, ◌<◌, List, [], ◌∷◌, ◌++◌, length, map, replicate, slice_get, slice_index_or, slice_set, Some, refl, sym, ◌∙◌, ap, subst, append_assoc, arith}
use Rattle.std.specs.List.{All, AllByRecursion, AllZip}
use Rattle.std.proofs.lemmas.List.{length-replicate, map-append}
use Rattle.std.proofs.lemmas.Option.{slice_get_within}
use Rattle.mc_desk.specs.Desks.{AreOperatorsOf, IsOperatorOf, IsTakerOf, accepted_of, number_of, operator_count, room_of, taken_by}
use Rattle.mc_desk.specs.declared.desk.Desk.{Desk}
use Rattle.mc_desk.specs.declared.desk.Operator.{Operator}
use Rattle.mc_desk.specs.declared.desk.Taker.{Taker}
use Rattle.mc_desks.proofs.Lists.{all_one_more, more_long, numbered_at, of_each, zip_one_more}
use Rattle.mc_desks.specs.Laid.{AreNewPasses, HaveOperators, HaveRoom, IsNewTaker}
use Rattle.mc_desks.specs.Passes.{IsNewPass, with_each}

-- ---- a pass more for each list

-- where a list stands with one more, it stood before, and the one more in the row
pub each_at : (lists : List (List Operator)) (row : List Operator) (k : ℕ) (list : List Operator) → slice_get (with_each lists row) k ≡ Some list
    → (before : List Operator) × (pass : Operator) × (slice_get lists k ≡ Some before) × (slice_get row k ≡ Some pass) × (before ++ pass ∷ [] ≡ list)
each_at [] row k list at = absurd (cc)
each_at (first ∷ lists) [] k list at = absurd (cc)
each_at (first ∷ lists) (pass ∷ row) zero list at = let same : first ++ pass ∷ [] ≡ list = cc in (first, pass, refl, refl, same)
each_at (first ∷ lists) (pass ∷ row) (suc k) list at = each_at lists row k list at

pub each_long : (lists : List (List Operator)) (row : List Operator) → length row ≡ length lists → length (with_each lists row) ≡ length lists
each_long [] row long = refl
each_long (first ∷ lists) [] long = absurd (omega (arith, long))
each_long (first ∷ lists) (pass ∷ row) long = let rest = each_long lists row (omega (arith, long)) in omega (arith, rest)

-- ---- desks so far

pub record AreLaidSoFar (operators room : ℕ) (desks : List Desk) (takers : List Taker) (passes : List (List Operator)) : Type 0 where
  pub counts : HaveOperators operators desks
  pub places : HaveRoom room desks
  pub are_takers : AllZip IsNewTaker desks takers
  pub pass_count : length passes ≡ operators
  pub are_passes : AreNewPasses desks passes

none_there : (n k : ℕ) (list : List Operator) → slice_get (replicate n []) k ≡ Some list → list ≡ []
none_there zero k list at = absurd (cc)
none_there (suc n) zero list at = cc
none_there (suc n) (suc k) list at = none_there n k list at

-- none yet
pub laid_none : (operators room : ℕ) (passes : List (List Operator)) → passes ≡ replicate operators [] → AreLaidSoFar operators room [] [] passes
laid_none operators room passes is = record {
  counts = tt;
  places = tt;
  are_takers = tt;
  pass_count = ap (λ (l : List (List Operator)). length l) is ∙ length-replicate operators [];
  are_passes = λ operator list at. subst (λ (l : List Operator). AllZip (IsNewPass operator) [] l) (sym (none_there operators operator list (subst (λ (l : List (List Operator)). slice_get l operator ≡ Some list) is at))) tt;
}

new_pass : (desk : Desk) (row : List Operator) (operator : ℕ) (pass : Operator) → AreOperatorsOf desk row → All (λ (who : Operator). accepted_of who ≡ []) row → slice_get row operator ≡ Some pass → IsNewPass operator desk pass
new_pass desk row operator pass are none at = record {
  is = record {
    of = of_each (IsOperatorOf desk) row operator pass are.of at;
    number = numbered_at number_of row (operator_count desk) operator pass are.numbers at;
  };
  none = of_each (λ (who : Operator). accepted_of who ≡ []) row operator pass none at;
}

passes_more : (desks : List Desk) (desk : Desk) (passes : List (List Operator)) (row : List Operator) → AreOperatorsOf desk row → All (λ (who : Operator). accepted_of who ≡ []) row → AreNewPasses desks passes → AreNewPasses (desks ++ desk ∷ []) (with_each passes row)
passes_more desks desk passes row are none old operator list at =
    let found = each_at passes row operator list at in
    subst (λ (l : List Operator). AllZip (IsNewPass operator) (desks ++ desk ∷ []) l) found.4
    (zip_one_more (IsNewPass operator) desks found.0 desk found.1 (old operator found.0 found.2) (new_pass desk row operator found.1 are none found.3))

-- one desk more
pub laid_more : (operators room : ℕ) (desks more : List Desk) (takers more_takers : List Taker) (passes more_passes : List (List Operator)) (desk : Desk) (row : List Operator) (taker : Taker)
    → AreLaidSoFar operators room desks takers passes
    → operators ≡ operator_count desk → room_of desk ≡ room → AreOperatorsOf desk row → All (λ (who : Operator). accepted_of who ≡ []) row → IsTakerOf desk taker → taken_by taker ≡ []
    → length row ≡ length passes → more ≡ desks ++ desk ∷ [] → more_takers ≡ takers ++ taker ∷ [] → more_passes ≡ with_each passes row
    → AreLaidSoFar operators room more more_takers more_passes
laid_more operators room desks more takers more_takers passes more_passes desk row taker so_far count places are none is_taker none_taken long is is_takers is_passes = record {
  counts = subst (HaveOperators operators) (sym is) (all_one_more (λ (d : Desk). operators ≡ operator_count d) desks desk so_far.counts count);
  places = subst (HaveRoom room) (sym is) (all_one_more (λ (d : Desk). room_of d ≡ room) desks desk so_far.places places);
  are_takers = rw (is, is_takers) (zip_one_more IsNewTaker desks takers desk taker so_far.are_takers (record { is = is_taker; none = none_taken }));
  pass_count = ap (λ (l : List (List Operator)). length l) is_passes ∙ (each_long passes row long ∙ so_far.pass_count);
  are_passes = rw (is, is_passes) (passes_more desks desk passes row are none so_far.are_passes);
}
