-- Desks that are finished one by one.
use Rattle.std.proofs.Common.{◌≡◌, ℕ, zero, suc, ◌<◌, ◌≤◌, List, [], ◌∷◌, ◌++◌, length, map, slice_get, Some, refl, sym, ◌∙◌, ap, subst, append_assoc, arith}
use Rattle.std.specs.List.{AllByRecursion, AllZip}
use Rattle.std.specs.declared.alloc.Global.{Global}
use Rattle.std.specs.declared.vec.Vec.{Vec}
use Rattle.std.proofs.lemmas.List.{append-nil}
use Rattle.std.proofs.lemmas.Option.{slice_get_within}
use Rattle.mc_desk.specs.Desks.{AreOperatorsOf, IsTakerOf, accepted_at, room_of, taken_by}
use Rattle.mc_desk.specs.Histories.{IsHistory}
use Rattle.mc_desk.specs.declared.desk.Desk.{Desk}
use Rattle.mc_desk.specs.declared.desk.Operator.{Operator}
use Rattle.mc_desk.specs.declared.desk.Taker.{Taker}
use Rattle.mc_desk.specs.declared.request.Request.{Request}
use Rattle.mc_desks.specs.Finished.{AreByDesk, AreHistories, AreRests, accepted_there}
use Rattle.mc_desks.specs.Passes.{list_at, lists_of}
use Rattle.mc_lane.specs.Queue.{Queue}

-- these desks are still to be finished, and what is left on them is all that is wanting
pub record IsFinishing (room : ℕ) (all_takers : List Taker) (all_columns : List (List Operator)) (desks : List Desk) (takers : List Taker) (columns : List (List Operator)) (rests : List (Queue Request)) : Type 0 where
  pub places : AllByRecursion (λ (desk : Desk). room_of desk ≤ room) desks
  pub are_takers : AllZip IsTakerOf desks takers
  pub operators : AllZip AreOperatorsOf desks columns
  pub so_far : (more : List (Queue Request)) → AreHistories takers columns more → AreHistories all_takers all_columns (rests ++ more)

-- the first of each
pub record AreFirst (room : ℕ) (desk : Desk) (taker : Taker) (column : List Operator) : Type 0 where
  pub fits : room_of desk ≤ room
  pub is_taker : IsTakerOf desk taker
  pub are_operators : AreOperatorsOf desk column

pub finishing_none : (room : ℕ) (takers : List Taker) (columns : List (List Operator)) (desks : List Desk) → AllByRecursion (λ (desk : Desk). room_of desk ≤ room) desks → AllZip IsTakerOf desks takers → AllZip AreOperatorsOf desks columns → IsFinishing room takers columns desks takers columns []
finishing_none room takers columns desks places are_takers operators = record { places = places; are_takers = are_takers; operators = operators; so_far = λ more are. are }

-- there is a taker for each desk, and a column
pub taker_wanting : (desk : Desk) (desks next : List Desk) (takers : List Taker) → desks ≡ desk ∷ next → takers ≡ [] → AllZip IsTakerOf desks takers → ⊥
taker_wanting desk desks next takers is none all = let both : AllZip IsTakerOf (desk ∷ next) [] = subst (λ (l : List Taker). AllZip IsTakerOf (desk ∷ next) l) none (subst (λ (l : List Desk). AllZip IsTakerOf l takers) is all) in both

pub column_wanting : (desk : Desk) (desks next : List Desk) (columns : List (List Operator)) → desks ≡ desk ∷ next → columns ≡ [] → AllZip AreOperatorsOf desks columns → ⊥
column_wanting desk desks next columns is none all =
    let both : AllZip AreOperatorsOf (desk ∷ next) [] = subst (λ (l : List (List Operator)). AllZip AreOperatorsOf (desk ∷ next) l) none (subst (λ (l : List Desk). AllZip AreOperatorsOf l columns) is all) in both

-- what is known of the next desk, and of those after it
pub next_desk : (room : ℕ) (all_takers : List Taker) (all_columns : List (List Operator)) (desks next : List Desk) (takers next_takers : List Taker) (columns next_columns : List (List Operator)) (rests : List (Queue Request)) (desk : Desk) (taker : Taker) (column : List Operator)
    → IsFinishing room all_takers all_columns desks takers columns rests → desks ≡ desk ∷ next → takers ≡ taker ∷ next_takers → columns ≡ column ∷ next_columns
    → IsFinishing room all_takers all_columns (desk ∷ next) (taker ∷ next_takers) (column ∷ next_columns) rests
next_desk room all_takers all_columns desks next takers next_takers columns next_columns rests desk taker column is d t c =
    subst (λ (l : List Desk). IsFinishing room all_takers all_columns l (taker ∷ next_takers) (column ∷ next_columns) rests) d
    (subst (λ (l : List Taker). IsFinishing room all_takers all_columns desks l (column ∷ next_columns) rests) t
    (subst (λ (l : List (List Operator)). IsFinishing room all_takers all_columns desks takers l rests) c is))

pub first_desk : (room : ℕ) (all_takers : List Taker) (all_columns : List (List Operator)) (next : List Desk) (next_takers : List Taker) (next_columns : List (List Operator)) (rests : List (Queue Request)) (desk : Desk) (taker : Taker) (column : List Operator)
    → IsFinishing room all_takers all_columns (desk ∷ next) (taker ∷ next_takers) (column ∷ next_columns) rests → AreFirst room desk taker column
first_desk room all_takers all_columns next next_takers next_columns rests desk taker column is = record { fits = is.places.0; is_taker = is.are_takers.0; are_operators = is.operators.0 }

-- one desk more is finished
pub finishing_more : (room : ℕ) (all_takers : List Taker) (all_columns : List (List Operator)) (next : List Desk) (next_takers : List Taker) (next_columns : List (List Operator)) (rests longer : List (Queue Request)) (desk : Desk) (taker : Taker) (column : List Operator) (rest : Queue Request)
    → IsFinishing room all_takers all_columns (desk ∷ next) (taker ∷ next_takers) (column ∷ next_columns) rests → IsHistory (taken_by taker) rest.items (accepted_at column) → longer ≡ rests ++ rest ∷ []
    → IsFinishing room all_takers all_columns next next_takers next_columns longer
finishing_more room all_takers all_columns next next_takers next_columns rests longer desk taker column rest is history grown = record {
  places = is.places.1;
  are_takers = is.are_takers.1;
  operators = is.operators.1;
  so_far = λ more are.
      subst (AreHistories all_takers all_columns) (sym (append_assoc rests (rest ∷ []) more) ∙ ap (λ (l : List (Queue Request)). l ++ more) (sym grown)) (is.so_far (rest ∷ more) (history, are));
}

zip_none : {A B : Type 0} (R : A → B → Type 0) (xs : List A) (ys : List B) → xs ≡ [] → AllZip R xs ys → ys ≡ []
zip_none R [] [] none all = refl
zip_none R [] (y ∷ ys) none all = absurd all
zip_none R (x ∷ xs) ys none all = absurd (cc)

pub finished_all : (room : ℕ) (all_takers : List Taker) (all_columns : List (List Operator)) (desks : List Desk) (takers : List Taker) (columns : List (List Operator)) (rests : List (Queue Request)) → IsFinishing room all_takers all_columns desks takers columns rests → desks ≡ []
    → AreHistories all_takers all_columns rests
finished_all room all_takers all_columns desks takers columns rests is none =
    let no_takers : takers ≡ [] = zip_none IsTakerOf desks takers none is.are_takers in
    let no_columns : columns ≡ [] = zip_none AreOperatorsOf desks columns none is.operators in
    let nothing : AreHistories takers columns [] = rw (no_takers, no_columns) tt in
    subst (AreHistories all_takers all_columns) (append-nil rests) (is.so_far [] nothing)

-- ---- by place

histories_long : (takers : List Taker) (columns : List (List Operator)) (rests : List (Queue Request)) → AreHistories takers columns rests → length rests ≡ length takers
histories_long [] [] [] are = refl
histories_long (taker ∷ takers) (column ∷ columns) (rest ∷ rests) are = let more = histories_long takers columns rests are.1 in omega (arith, more)
histories_long [] [] (rest ∷ rests) are = absurd are
histories_long [] (column ∷ columns) rests are = absurd are
histories_long (taker ∷ takers) [] rests are = absurd are
histories_long (taker ∷ takers) (column ∷ columns) [] are = absurd are

history_at : (takers : List Taker) (columns : List (List Operator)) (rests : List (Queue Request)) (place : ℕ) (taker : Taker) (rest : Queue Request) → AreHistories takers columns rests → slice_get takers place ≡ Some taker → slice_get rests place ≡ Some rest
    → IsHistory (taken_by taker) rest.items (accepted_at (list_at columns place))
history_at [] [] [] place taker rest are p q = absurd (cc)
history_at (t ∷ takers) (column ∷ columns) (r ∷ rests) zero taker rest are p q =
    let one : t ≡ taker = cc in
    let two : r ≡ rest = cc in
    subst (λ (x : Queue Request). IsHistory (taken_by taker) x.items (accepted_at column)) two (subst (λ (x : Taker). IsHistory (taken_by x) r.items (accepted_at column)) one are.0)
history_at (t ∷ takers) (column ∷ columns) (r ∷ rests) (suc place) taker rest are p q = history_at takers columns rests place taker rest are.1 p q
history_at [] [] (r ∷ rests) place taker rest are p q = absurd are
history_at [] (column ∷ columns) rests place taker rest are p q = absurd are
history_at (t ∷ takers) [] rests place taker rest are p q = absurd are
history_at (t ∷ takers) (column ∷ columns) [] place taker rest are p q = absurd are

-- what is left on each desk, by the passes of each operator
pub are_rests : (desks : List Desk) (takers : List Taker) (passes columns : List (List Operator)) (rests : List (Queue Request)) → length takers ≡ length desks → AreByDesk desks passes columns → AreHistories takers columns rests → AreRests takers passes rests
are_rests desks takers passes columns rests long turned are = record {
  count = histories_long takers columns rests are;
  each = λ place taker rest p q operator.
      let within = slice_get_within takers place taker p in
      history_at takers columns rests place taker rest are p q operator ∙ turned.accepted place operator (subst (λ (n : ℕ). place < n) long within);
}
