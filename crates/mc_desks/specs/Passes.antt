-- The passes of operators, by operator and by desk.
use Rattle.std.specs.Prelude.{◌≡◌, ℕ, List, [], ◌∷◌, ◌++◌, map, slice_index_or}
use Rattle.std.specs.List.{AllZip}
use Rattle.std.specs.declared.alloc.Global.{Global}
use Rattle.std.specs.declared.vec.Vec.{Vec}
use Rattle.mc_desk.specs.Desks.{IsOperatorOf, accepted_of, number_of}
use Rattle.mc_desk.specs.declared.desk.Desk.{Desk}
use Rattle.mc_desk.specs.declared.desk.Operator.{Operator}

-- ---- lists of lists

-- what some lists have
abbrev pub lists_of : List (Vec Operator Global) → List (List Operator)
lists_of lists = map (λ (list : Vec Operator Global). list.items) lists

-- the list at a place; none past the last
abbrev pub list_at : List (List Operator) → ℕ → List Operator
list_at lists at = slice_index_or lists at []

-- each list with one element more, at its end
abbrev pub with_each : List (List Operator) → List Operator → List (List Operator)
with_each [] row = []
with_each (list ∷ lists) [] = []
with_each (list ∷ lists) (pass ∷ row) = (list ++ pass ∷ []) ∷ with_each lists row

-- ---- passes

-- the pass of the operator with this number for a desk
pub record IsPassOf (operator : ℕ) (desk : Desk) (pass : Operator) : Type 0 where
  pub of : IsOperatorOf desk pass
  pub number : number_of pass ≡ operator

-- and nothing was accepted from it yet
pub record IsNewPass (operator : ℕ) (desk : Desk) (pass : Operator) : Type 0 where
  pub is : IsPassOf operator desk pass
  pub none : accepted_of pass ≡ []

-- an operator's passes for these desks, in their order
abbrev pub ArePassesOf : List Desk → ℕ → List Operator → Type 0
ArePassesOf desks operator passes = AllZip (IsPassOf operator) desks passes
