-- For callers: operators that ask and takers that take stay those of their desk.
use Rattle.std.proofs.Common.{◌≡◌, ℕ, suc, ◌+◌, ◌<◌, eqb, List, [], ◌∷◌, map, length, get_or, sym, refl, ap, ◌∙◌, subst, arith}
use Rattle.mc_desk.specs.declared.desk.Desk.{Desk}
use Rattle.mc_desk.specs.declared.desk.Operator.{Operator}
use Rattle.mc_desk.specs.declared.desk.Taker.{Taker}
use Rattle.mc_desk.specs.Desks.{AreOperatorsOf, AreSameOperators, IsOperatorOf, IsSameOperator, IsTakerOf, IsSameTaker, number_of, operator_count}

pub same_still : (who : Operator) → IsSameOperator who who
same_still who = record { queue = refl; number = refl; last = refl }

pub same_after : (first old new : Operator) → IsSameOperator first old → IsSameOperator old new → IsSameOperator first new
same_after first old new before after = record { queue = after.queue ∙ before.queue; number = after.number ∙ before.number; last = after.last ∙ before.last }

pub still_of : (desk : Desk) (old new : Operator) → IsSameOperator old new → IsOperatorOf desk old → IsOperatorOf desk new
still_of desk old new same of = record {
  queue = same.queue ∙ of.queue;
  number = subst (λ (n : ℕ). n < operator_count desk) (sym same.number) of.number;
  last = same.last ∙ (of.last ∙ ap (λ (n : ℕ). eqb (n + 1) (operator_count desk)) (sym same.number));
}

pub taker_still : (taker : Taker) → IsSameTaker taker taker
taker_still taker = record { queue = refl; operators = refl }

pub taker_after : (first old new : Taker) → IsSameTaker first old → IsSameTaker old new → IsSameTaker first new
taker_after first old new before after = record { queue = after.queue ∙ before.queue; operators = after.operators ∙ before.operators }

pub still_taker : (desk : Desk) (old new : Taker) → IsSameTaker old new → IsTakerOf desk old → IsTakerOf desk new
still_taker desk old new same of = record { queue = same.queue ∙ of.queue; operators = same.operators ∙ of.operators }

same_numbers : (old new : List Operator) → length new ≡ length old → AreSameOperators old new → map number_of new ≡ map number_of old
same_numbers [] [] count same = refl
same_numbers [] (y ∷ ys) count same = absurd (omega arith)
same_numbers (x ∷ xs) [] count same = absurd (omega arith)
same_numbers (x ∷ xs) (y ∷ ys) count same =
    let first : number_of y ≡ number_of x = (same 0 x (omega arith)).number in
    let rest : map number_of ys ≡ map number_of xs = same_numbers xs ys (omega arith) (λ place other low. same (suc place) other (omega arith)) in
    λ i. first i ∷ rest i

-- all operators of a desk, once each of them has asked
pub still_all : (desk : Desk) (old new : List Operator) → length new ≡ length old → AreSameOperators old new → AreOperatorsOf desk old → AreOperatorsOf desk new
still_all desk old new count same are = record {
  of = λ place other low. still_of desk (get_or old place other) (get_or new place other) (same place other (omega arith)) (are.of place other (omega arith));
  numbers = same_numbers old new count same ∙ are.numbers;
}
