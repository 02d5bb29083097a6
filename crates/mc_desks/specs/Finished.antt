-- What is left on several desks.
use Rattle.std.specs.Prelude.{◌≡◌, ℕ, ◌<◌, ◌≤◌, List, [], ◌∷◌, length, slice_get, Some}
use Rattle.std.specs.List.{AllByRecursion, AllZip}
use Rattle.mc_desk.specs.Desks.{AreOperatorsOf, IsTakerOf, accepted_at, operator_count, room_of, taken_by}
use Rattle.mc_desk.specs.Histories.{IsHistory}
use Rattle.mc_desk.specs.declared.desk.Desk.{Desk}
use Rattle.mc_desk.specs.declared.desk.Operator.{Operator}
use Rattle.mc_desk.specs.declared.desk.Taker.{Taker}
use Rattle.mc_desk.specs.declared.request.Request.{Request}
use Rattle.mc_desks.specs.Passes.{ArePassesOf, list_at}
use Rattle.mc_lane.specs.Queue.{Queue}

-- these are desks of so many operators with their takers and the passes of each operator, and each has room for at most
-- so many requests
pub record CanFinish (room : ℕ) (desks : List Desk) (takers : List Taker) (passes : List (List Operator)) : Type 0 where
  pub counts : AllByRecursion (λ (desk : Desk). length passes ≡ operator_count desk) desks
  pub places : AllByRecursion (λ (desk : Desk). room_of desk ≤ room) desks
  pub their_takers : AllZip IsTakerOf desks takers
  pub their_passes : (operator : ℕ) (list : List Operator) → slice_get passes operator ≡ Some list
      → ArePassesOf desks operator list

-- what was accepted from an operator at the desk of a place
abbrev pub accepted_there : List (List Operator) → ℕ → ℕ → List Request
accepted_there passes place operator = accepted_at (list_at passes operator) place

-- the passes stand desk by desk: at each place are those of all operators of the desk, from whom the same was accepted
pub record AreByDesk (desks : List Desk) (passes columns : List (List Operator)) : Type 0 where
  pub operators : AllZip AreOperatorsOf desks columns
  pub accepted : (place operator : ℕ) → place < length desks
      → accepted_at (list_at columns place) operator ≡ accepted_there passes place operator

-- of each desk this is left: of each operator, what was taken and then what is left is what was accepted there
pub record AreRests (takers : List Taker) (passes : List (List Operator)) (rests : List (Queue Request)) : Type 0 where
  pub count : length rests ≡ length takers
  pub each : (place : ℕ) (taker : Taker) (rest : Queue Request) → slice_get takers place ≡ Some taker
      → slice_get rests place ≡ Some rest
      → IsHistory (taken_by taker) rest.items (accepted_there passes place)

-- the same, where the passes stand desk by desk
abbrev pub AreHistories : List Taker → List (List Operator) → List (Queue Request) → Type 0
AreHistories [] [] [] = Unit {0}
AreHistories (taker ∷ takers) (column ∷ columns) (rest ∷ rests) =
    IsHistory (taken_by taker) rest.items (accepted_at column) × AreHistories takers columns rests
AreHistories takers columns rests = ⊥
