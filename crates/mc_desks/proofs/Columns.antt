-- The passes of operators, turned from one list by operator to one by desk.
use Rattle.std.proofs.Common.{◌≡◌, ◌≢◌, ◌⊎◌, inl, inr, ℕ, zero, suc, ◌+◌, ◌<◌, ◌≤◌, List, [], ◌∷◌, ◌++◌, length, map, replicate, slice_get, slice_index_or, Some, refl, sym, ◌∙◌, ap, subst, append_assoc, arith}
use Rattle.std.specs.List.{All, AllByRecursion, AllZip, range_with_len}
use Rattle.std.proofs.lemmas.Bool.{cases_eq, cases_lt}
use Rattle.std.proofs.lemmas.List.{append-nil, get_or-replicate, get_or_past, length-replicate, length-map, map_push}
use Rattle.std.proofs.lemmas.List.Elements.{All-push}
use Rattle.std.proofs.lemmas.List.FromFn.{length-range_with_len}
use Rattle.std.proofs.lemmas.Option.{get_or_from_slice_get, slice_get-map}
use Rattle.std.specs.Option.{option_map}
use Rattle.mc_desk.proofs.Indices.{range_more}
use Rattle.mc_desk.specs.Desks.{AreOperatorsOf, IsOperatorOf, accepted_at, accepted_of, number_of, operator_count}
use Rattle.mc_desk.specs.declared.desk.Desk.{Desk}
use Rattle.mc_desk.specs.declared.desk.Operator.{Operator}
use Rattle.mc_desk.specs.declared.request.Request.{Request}
use Rattle.mc_desks.proofs.DesksSoFar.{each_at, each_long}
use Rattle.mc_desks.proofs.Lists.{at_end, at_other, first_after, more_long, of_all, there_is, zip_at, zip_from, zip_long}
use Rattle.mc_desks.specs.Finished.{AreByDesk, accepted_there}
use Rattle.mc_desks.specs.Passes.{ArePassesOf, IsPassOf, list_at, with_each}

-- ---- one desk

-- at the desk of a place these are the passes of the first operators
pub record IsColumn (place : ℕ) (done : List (List Operator)) (desk : Desk) (column : List Operator) : Type 0 where
  pub of : All (IsOperatorOf desk) column
  pub numbers : map number_of column ≡ range_with_len 0 (length done)
  pub accepted : (operator : ℕ) → accepted_at column operator ≡ accepted_there done place operator

column_long : (place : ℕ) (done : List (List Operator)) (desk : Desk) (column : List Operator) → IsColumn place done desk column → length column ≡ length done
column_long place done desk column is =
    let one = length-map column number_of in
    let two : length (map number_of column) ≡ length (range_with_len 0 (length done)) = ap (λ (l : List ℕ). length l) is.numbers in
    let three = length-range_with_len 0 (length done) in
    omega (arith, one, two, three)

-- what was accepted from one operator more
accepted_more : (place operator : ℕ) (done : List (List Operator)) (column row : List Operator) (pass : Operator) → length column ≡ length done → slice_get row place ≡ Some pass
    → accepted_at column operator ≡ accepted_there done place operator → (operator ≡ length done) ⊎ (operator ≢ length done)
    → accepted_at (column ++ pass ∷ []) operator ≡ accepted_there (done ++ row ∷ []) place operator
accepted_more place operator done column row pass long at was (inl here) =
    let same = length-map column accepted_of in
    let new : accepted_at (column ++ pass ∷ []) operator ≡ accepted_of pass =
    ap (λ (l : List (List Request)). slice_index_or l operator []) (map_push accepted_of column pass) ∙ at_end (map accepted_of column) (accepted_of pass) operator [] (omega (arith, here, same, long)) in
    let row_is : list_at (done ++ row ∷ []) operator ≡ row = at_end done row operator [] here in
    new ∙ (sym (get_or_from_slice_get (map accepted_of row) place (accepted_of pass) [] (slice_get-map accepted_of row place ∙ ap (option_map accepted_of) at)) ∙ ap (λ (l : List Operator). accepted_at l place) (sym row_is))
accepted_more place operator done column row pass long at was (inr off) =
    let same = length-map column accepted_of in
    let apart : operator ≢ length done = off in
    let old : accepted_at (column ++ pass ∷ []) operator ≡ accepted_at column operator =
    ap (λ (l : List (List Request)). slice_index_or l operator []) (map_push accepted_of column pass) ∙ at_other (map accepted_of column) (accepted_of pass) operator [] (omega (arith, apart, same, long)) in
    old ∙ (was ∙ ap (λ (l : List Operator). accepted_at l place) (sym (at_other done row operator [] off)))

column_more : (place : ℕ) (done : List (List Operator)) (desk : Desk) (column row : List Operator) (pass : Operator) → IsColumn place done desk column → IsPassOf (length done) desk pass → slice_get row place ≡ Some pass
    → IsColumn place (done ++ row ∷ []) desk (column ++ pass ∷ [])
column_more place done desk column row pass is one at = record {
  of = All-push (IsOperatorOf desk) column pass is.of one.of;
  numbers = map_push number_of column pass ∙ (ap (λ (l : List ℕ). l ++ number_of pass ∷ []) is.numbers
      ∙ (ap (λ (n : ℕ). range_with_len 0 (length done) ++ n ∷ []) (one.number ∙ omega arith) ∙ (sym (range_more 0 (length done)) ∙ ap (λ (n : ℕ). range_with_len 0 n) (sym (more_long done row)))));
  accepted = λ operator. accepted_more place operator done column row pass (column_long place done desk column is) at (is.accepted operator) (cases_eq operator (length done));
}

-- ---- all desks

-- desk by desk, the passes of the operators so far; the others are still to come
pub record AreTurned (desks : List Desk) (all rest columns : List (List Operator)) : Type 0 where
  pub done : List (List Operator)
  pub are : done ++ rest ≡ all
  pub count : length columns ≡ length desks
  pub each : (place : ℕ) (desk : Desk) (column : List Operator) → slice_get desks place ≡ Some desk → slice_get columns place ≡ Some column → IsColumn place done desk column

none_at : (n place : ℕ) (column : List Operator) → slice_get (replicate n []) place ≡ Some column → column ≡ []
none_at zero place column at = absurd (cc)
none_at (suc n) zero column at = cc
none_at (suc n) (suc place) column at = none_at n place column at

empty_column : (place : ℕ) (desk : Desk) → IsColumn place [] desk []
empty_column place desk = record {
  of = λ k d low. absurd (omega arith);
  numbers = refl;
  accepted = λ operator. refl;
}

pub turned_none : (desks : List Desk) (all columns : List (List Operator)) → columns ≡ replicate (length desks) [] → AreTurned desks all all columns
turned_none desks all columns is = record {
  done = [];
  are = refl;
  count = ap (λ (l : List (List Operator)). length l) is ∙ length-replicate (length desks) [];
  each = λ place desk column there at. subst (IsColumn place [] desk) (sym (none_at (length desks) place column (subst (λ (l : List (List Operator)). slice_get l place ≡ Some column) is at))) (empty_column place desk);
}

-- the next operator's passes are all there
next_passes : (desks : List Desk) (all rest next columns : List (List Operator)) (row : List Operator) (turned : AreTurned desks all rest columns) → rest ≡ row ∷ next
    → ((operator : ℕ) (list : List Operator) → slice_get all operator ≡ Some list → ArePassesOf desks operator list) → ArePassesOf desks (length turned.done) row
next_passes desks all rest next columns row turned is each =
    each (length turned.done) row (subst (λ (l : List (List Operator)). slice_get l (length turned.done) ≡ Some row) (ap (λ (l : List (List Operator)). turned.done ++ l) (sym is) ∙ turned.are) (first_after turned.done row next))

turned_each : (desks : List Desk) (done columns : List (List Operator)) (row : List Operator)
    → ((place : ℕ) (desk : Desk) (column : List Operator) → slice_get desks place ≡ Some desk → slice_get columns place ≡ Some column → IsColumn place done desk column)
    → ArePassesOf desks (length done) row
    → (place : ℕ) (desk : Desk) (column : List Operator) → slice_get desks place ≡ Some desk → slice_get (with_each columns row) place ≡ Some column → IsColumn place (done ++ row ∷ []) desk column
turned_each desks done columns row each passes place desk column there at =
    let found = each_at columns row place column at in
    subst (IsColumn place (done ++ row ∷ []) desk) found.4
    (column_more place done desk found.0 row found.1 (each place desk found.0 there found.2) (zip_at (IsPassOf (length done)) desks row place desk found.1 passes there found.3) found.3)

-- one operator more
pub turned_more : (desks : List Desk) (all rest next columns more : List (List Operator)) (row : List Operator) → AreTurned desks all rest columns → rest ≡ row ∷ next
    → ((operator : ℕ) (list : List Operator) → slice_get all operator ≡ Some list → ArePassesOf desks operator list) → more ≡ with_each columns row → AreTurned desks all next more
turned_more desks all rest next columns more row turned is each grown =
    let passes = next_passes desks all rest next columns row turned is each in
    let done = turned.done in
    record {
      done = done ++ row ∷ [];
      are = append_assoc done (row ∷ []) next ∙ (ap (λ (l : List (List Operator)). done ++ l) (sym is) ∙ turned.are);
      count = ap (λ (l : List (List Operator)). length l) grown ∙ (each_long columns row (zip_long (IsPassOf (length done)) desks row passes ∙ sym turned.count) ∙ turned.count);
      each = λ place desk column there at. turned_each desks done columns row turned.each passes place desk column there (subst (λ (l : List (List Operator)). slice_get l place ≡ Some column) grown at);
    }

-- the next row is as long as there are lists
pub row_long : (desks : List Desk) (all rest next columns : List (List Operator)) (row : List Operator) → AreTurned desks all rest columns → rest ≡ row ∷ next
    → ((operator : ℕ) (list : List Operator) → slice_get all operator ≡ Some list → ArePassesOf desks operator list) → length row ≡ length columns
row_long desks all rest next columns row turned is each =
    zip_long (IsPassOf (length turned.done)) desks row (next_passes desks all rest next columns row turned is each) ∙ sym turned.count

-- ---- all operators

pub turned_all : (desks : List Desk) (all rest columns : List (List Operator)) → AreTurned desks all rest columns → rest ≡ [] → AllByRecursion (λ (desk : Desk). length all ≡ operator_count desk) desks → AreByDesk desks all columns
turned_all desks all rest columns turned none counts =
    let whole : turned.done ≡ all = sym (append-nil turned.done) ∙ (ap (λ (l : List (List Operator)). turned.done ++ l) (sym none) ∙ turned.are) in
    let each : (place : ℕ) (desk : Desk) (column : List Operator) → slice_get desks place ≡ Some desk → slice_get columns place ≡ Some column → IsColumn place all desk column =
    λ place desk column there at. subst (λ (l : List (List Operator)). IsColumn place l desk column) whole (turned.each place desk column there at) in
    record {
      operators = zip_from AreOperatorsOf desks columns turned.count (λ place desk column there at.
          let one = each place desk column there at in
          record { of = one.of; numbers = one.numbers ∙ ap (λ (n : ℕ). range_with_len 0 n) (of_all (λ (d : Desk). length all ≡ operator_count d) desks place desk counts there) });
      accepted = λ place operator within.
          let desk = there_is desks place within in
          let column = there_is columns place (subst (λ (n : ℕ). place < n) (sym turned.count) within) in
          ap (λ (l : List Operator). accepted_at l operator) (get_or_from_slice_get columns place column.0 [] column.1) ∙ (each place desk.0 column.0 desk.1 column.1).accepted operator;
    }
