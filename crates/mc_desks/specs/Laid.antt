-- Desks for several boxes, as they are laid.
use Rattle.std.specs.Prelude.{◌≡◌, ℕ, List, [], length, slice_get, Some}
use Rattle.std.specs.List.{AllByRecursion, AllZip}
use Rattle.mc_desk.specs.Desks.{IsTakerOf, operator_count, room_of, taken_by}
use Rattle.mc_desk.specs.declared.desk.Desk.{Desk}
use Rattle.mc_desk.specs.declared.desk.Operator.{Operator}
use Rattle.mc_desk.specs.declared.desk.Taker.{Taker}
use Rattle.mc_desks.specs.Passes.{IsNewPass, lists_of}
use Rattle.mc_desks.specs.declared.laying.Desks.{Desks}

-- the taker of a desk, which took nothing yet
pub record IsNewTaker (desk : Desk) (taker : Taker) : Type 0 where
  pub is : IsTakerOf desk taker
  pub none : taken_by taker ≡ []

-- each desk has so many operators, and room for so many requests
abbrev pub HaveOperators : ℕ → List Desk → Type 0
HaveOperators operators desks = AllByRecursion (λ (desk : Desk). operators ≡ operator_count desk) desks

abbrev pub HaveRoom : ℕ → List Desk → Type 0
HaveRoom room desks = AllByRecursion (λ (desk : Desk). room_of desk ≡ room) desks

-- each operator has the passes for these desks, in their order, from which nothing was accepted yet
abbrev pub AreNewPasses : List Desk → List (List Operator) → Type 0
AreNewPasses desks passes =
    (operator : ℕ) (list : List Operator) → slice_get passes operator ≡ Some list
    → AllZip (IsNewPass operator) desks list

-- so many empty desks with so many operators, the taker of each, and the passes of each operator
pub record AreLaid (operators boxes room : ℕ) (laid : Desks) : Type 0 where
  pub count : length laid.desks.items ≡ boxes
  pub counts : HaveOperators operators laid.desks.items
  pub places : HaveRoom room laid.desks.items
  pub takers : AllZip IsNewTaker laid.desks.items laid.takers.items
  pub pass_count : length (lists_of laid.passes.items) ≡ operators
  pub passes : AreNewPasses laid.desks.items (lists_of laid.passes.items)
