-- Operators with their passes.
use Rattle.std.proofs.Common.{◌≡◌, ◌⊎◌, inl, inr, ℕ, ◌<◌, ◌≤◌, List, [], ◌∷◌, ◌++◌, length, map, slice_get, Some, refl, sym, ◌∙◌, ap, subst, append_assoc, arith}
use Rattle.std.specs.List.{AllZip}
use Rattle.std.specs.Option.{option_map}
use Rattle.std.proofs.lemmas.Bool.{cases_lt}
use Rattle.std.proofs.lemmas.List.{append-nil, get_or_past, length-append, length-map}
use Rattle.std.proofs.lemmas.Option.{get_or_from_slice_get, slice_get-map, slice_get_within}
use Rattle.mc_desk.specs.Desks.{accepted_at, accepted_of}
use Rattle.mc_desk.specs.declared.desk.Desk.{Desk}
use Rattle.mc_desk.specs.declared.desk.Operator.{Operator}
use Rattle.mc_desk.specs.declared.request.Request.{Request}
use Rattle.mc_desks.proofs.Lists.{first_after, more_long, there_is, zip_at, zip_long}
use Rattle.mc_desks.specs.Laid.{AreNewPasses}
use Rattle.mc_desks.specs.Passes.{IsNewPass}
use Rattle.mc_live.specs.Askers.{IsNewAsker}
use Rattle.mc_live.specs.declared.asker.Asker.{Asker}
use Rattle.mc_phase.proofs.Sets.{more_at}
use Rattle.mc_phase.specs.Prepared.{AreAskersOf, IsAskerOf}

-- ---- one operator

none_by : (desks : List Desk) (operator who : ℕ) (passes : List Operator) → AllZip (IsNewPass operator) desks passes → (who < length passes) ⊎ (length passes ≤ who) → accepted_at passes who ≡ []
none_by desks operator who passes new (inl within) =
    let pass = there_is passes who within in
    let long = zip_long (IsNewPass operator) desks passes new in
    let desk = there_is desks who (omega (arith, within, long)) in
    get_or_from_slice_get (map accepted_of passes) who (accepted_of pass.0) [] (slice_get-map accepted_of passes who ∙ ap (option_map accepted_of) pass.1) ∙ (zip_at (IsNewPass operator) desks passes who desk.0 pass.0 new desk.1 pass.1).none
none_by desks operator who passes new (inr past) = let long = length-map passes accepted_of in get_or_past (map accepted_of passes) who [] (omega (arith, past, long))

new_asker : (desks : List Desk) (operator : ℕ) (asker : Asker) → AllZip (IsNewPass operator) desks asker.passes.items → asker.number ≡ operator → IsNewAsker desks asker
new_asker desks operator asker new number =
    let passes = asker.passes.items in
    record {
      passes = record {
        count = zip_long (IsNewPass operator) desks passes new;
        each = λ who desk pass p q. (zip_at (IsNewPass operator) desks passes who desk pass new p q).is.of;
        numbers = λ who pass q.
            let within = slice_get_within passes who pass q in
            let long = zip_long (IsNewPass operator) desks passes new in
            let desk = there_is desks who (omega (arith, within, long)) in
            (zip_at (IsNewPass operator) desks passes who desk.0 pass new desk.1 q).is.number ∙ sym number;
      };
      none = λ who. ap (map (λ (r : Request). r.event)) (none_by desks operator who passes new (cases_lt who (length passes)));
    }

-- ---- one after the other

-- so many operators have their passes, and the others are still to get theirs
pub record AreCalled (desks : List Desk) (all rest : List (List Operator)) (askers : List Asker) : Type 0 where
  pub done : List (List Operator)
  pub are : done ++ rest ≡ all
  pub count : length askers ≡ length done
  pub each : (operator : ℕ) (asker : Asker) → slice_get askers operator ≡ Some asker → IsAskerOf desks operator asker

pub called_none : (desks : List Desk) (all : List (List Operator)) → AreCalled desks all all []
called_none desks all = record { done = []; are = refl; count = refl; each = λ operator asker at. absurd (cc) }

asker_at : (desks : List Desk) (askers : List Asker) (asker : Asker) (operator : ℕ) (other : Asker) → ((o : ℕ) (a : Asker) → slice_get askers o ≡ Some a → IsAskerOf desks o a) → IsAskerOf desks (length askers) asker
    → (slice_get askers operator ≡ Some other) ⊎ ((operator ≡ length askers) × (asker ≡ other)) → IsAskerOf desks operator other
asker_at desks askers asker operator other each new (inl there) = each operator other there
asker_at desks askers asker operator other each new (inr here) = subst (IsAskerOf desks operator) here.1 (subst (λ (n : ℕ). IsAskerOf desks n asker) (sym here.0) new)

pub called_more : (desks : List Desk) (all rest next : List (List Operator)) (askers longer : List Asker) (asker : Asker) → AreCalled desks all rest askers → rest ≡ asker.passes.items ∷ next → AreNewPasses desks all → asker.number ≡ length askers → longer ≡ askers ++ asker ∷ []
    → AreCalled desks all next longer
called_more desks all rest next askers longer asker called first new number grown =
    let row = asker.passes.items in
    let done = called.done in
    let count = called.count in
    let whole : done ++ (row ∷ next) ≡ all = ap (λ (l : List (List Operator)). done ++ l) (sym first) ∙ called.are in
    let here : slice_get all (length askers) ≡ Some row =
    subst (λ (n : ℕ). slice_get all n ≡ Some row) (sym count) (subst (λ (l : List (List Operator)). slice_get l (length done) ≡ Some row) whole (first_after done row next)) in
    let is : IsAskerOf desks (length askers) asker = record { new = new_asker desks (length askers) asker (new (length askers) row here) number; number = number } in
    record {
      done = done ++ row ∷ [];
      are = append_assoc done (row ∷ []) next ∙ whole;
      count = let one = more_long askers asker in let two = more_long done row in ap (λ (l : List Asker). length l) grown ∙ omega (arith, one, two, count);
      each = λ operator other at. asker_at desks askers asker operator other called.each is (more_at askers asker operator other (subst (λ (l : List Asker). slice_get l operator ≡ Some other) grown at));
    }

pub called_all : (desks : List Desk) (all rest : List (List Operator)) (askers : List Asker) → AreCalled desks all rest askers → rest ≡ [] → AreAskersOf desks (length all) askers
called_all desks all rest askers called none = record {
  count = called.count ∙ ap (λ (l : List (List Operator)). length l) (sym (append-nil called.done) ∙ (ap (λ (l : List (List Operator)). called.done ++ l) (sym none) ∙ called.are));
  each = called.each;
}

-- fewer than all have theirs
pub called_few : (desks : List Desk) (all rest next : List (List Operator)) (askers : List Asker) (row : List Operator) → AreCalled desks all rest askers → rest ≡ row ∷ next → length askers < length all
called_few desks all rest next askers row called first =
    let one : length (called.done ++ rest) ≡ length all = ap (λ (l : List (List Operator)). length l) called.are in
    let two = length-append called.done rest in
    let three : length rest ≡ length (row ∷ next) = ap (λ (l : List (List Operator)). length l) first in
    let four = called.count in
    omega (arith, one, two, three, four)
