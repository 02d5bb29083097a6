-- What a contract sees of desks, operators and takers.
use Rattle.std.specs.Prelude.{◌≡◌, ℕ, ◌+◌, ◌<◌, ◌≤◌, ◌==◌, List, [], map, length, Option, slice_index_or}
use Rattle.std.specs.List.{All, range_with_len}
use Rattle.crossbeam_queue.specs.Fifo.{Held}
use Rattle.crossbeam_queue.specs.Passes.{view, ruled_capacity}
use Rattle.mc_box.specs.declared.event.Event.{Event}
use Rattle.mc_desk.specs.Histories.{WasSeen, requests_of}
use Rattle.mc_desk.specs.declared.desk.Desk.{Desk}
use Rattle.mc_desk.specs.declared.desk.Operator.{Operator}
use Rattle.mc_desk.specs.declared.desk.Taker.{Taker}
use Rattle.mc_desk.specs.declared.request.Request.{Request}

-- ---- desks

-- how many operators the desk has
abbrev pub operator_count : Desk → ℕ
operator_count desk = desk.operators

-- how many requests the desk has room for
abbrev pub room_of : Desk → ℕ
room_of desk = ruled_capacity desk.queue

-- ---- operators

-- an operator's number
abbrev pub number_of : Operator → ℕ
number_of who = who.number

-- the requests that were accepted from it, in their order
abbrev pub accepted_of : Operator → List Request
accepted_of who = (view who.pass).accepted

-- what the operator asks next, with this event
abbrev pub next_request : Operator → Option Event → Request
next_request who event = record { operator = number_of who; index = length (accepted_of who); event = event }

-- it is an operator of this desk, and knows whether its number is the last one
pub record IsOperatorOf (desk : Desk) (who : Operator) : Type 0 where
  pub queue : who.pass.table_id ≡ desk.queue.table.shared.table_id
  pub number : number_of who < operator_count desk
  pub last : (view who.pass).last ≡ (number_of who + 1 == operator_count desk)

-- it is the same operator, whatever it asked
pub record IsSameOperator (old new : Operator) : Type 0 where
  pub queue : new.pass.table_id ≡ old.pass.table_id
  pub number : number_of new ≡ number_of old
  pub last : (view new.pass).last ≡ (view old.pass).last

-- each of them is the same operator as the one at its place before
abbrev pub AreSameOperators : List Operator → List Operator → Type 0
AreSameOperators old new =
    (place : ℕ) (other : Operator) → place < length old
    → IsSameOperator (slice_index_or old place other) (slice_index_or new place other)

-- they are all the operators of this desk, in order
pub record AreOperatorsOf (desk : Desk) (operators : List Operator) : Type 0 where
  pub of : All (IsOperatorOf desk) operators
  pub numbers : map number_of operators ≡ range_with_len 0 (operator_count desk)

-- what was accepted from the operator with this number; nothing, where there is none
abbrev pub accepted_at : List Operator → ℕ → List Request
accepted_at operators number = slice_index_or (map accepted_of operators) number []

-- at one moment as many requests lay there as the desk has room for, and what this operator knows was true of them
abbrev pub WasFull : Desk → Operator → Type 0
WasFull desk who = Held (room_of desk) (WasSeen (view who.pass))

-- where there is no other operator, as many requests were accepted from this one as the desk has room for, or more
abbrev pub HasFilled : Desk → Operator → Type 0
HasFilled desk who = operator_count desk ≡ 1 → room_of desk ≤ length (accepted_of who)

-- ---- the taker

-- the requests that were taken, in their order
abbrev pub taken_by : Taker → List Request
taken_by taker = (view taker.pass).taken

-- it is the taker of this desk
pub record IsTakerOf (desk : Desk) (taker : Taker) : Type 0 where
  pub queue : taker.pass.table_id ≡ desk.queue.table.shared.table_id
  pub operators : (view taker.pass).made ≡ operator_count desk

-- it is the same taker, whatever it took
pub record IsSameTaker (old new : Taker) : Type 0 where
  pub queue : new.pass.table_id ≡ old.pass.table_id
  pub operators : (view new.pass).made ≡ (view old.pass).made

-- it is of an operator of this desk, and of that operator it comes after those that were taken
pub record IsNextRequest (desk : Desk) (taker : Taker) (request : Request) : Type 0 where
  pub operator : request.operator < operator_count desk
  pub index : request.index ≡ length (requests_of request.operator (taken_by taker))

-- at one moment no request lay there, and what was taken was all that was accepted
abbrev pub WasEmpty : Desk → Taker → Type 0
WasEmpty desk taker = Held 0 (WasSeen (view taker.pass))
