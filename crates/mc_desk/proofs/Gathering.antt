-- Passes that come back, one operator after another.
use Rattle.std.proofs.Common.{◌≡◌, ℕ, ◌+◌, Bool, List, [], ◌∷◌, ◌++◌, map, length, append_assoc, append-nil, sym, refl, ap, ◌∙◌, subst, arith}
use Rattle.std.specs.List.{All, range_with_len}
use Rattle.std.proofs.lemmas.List.{length-map}
use Rattle.std.proofs.lemmas.List.FromFn.{length-range_with_len}
use Rattle.std.proofs.lemmas.List.Elements.{All-tail}
use Rattle.mc_desk.specs.declared.desk.Desk.{Desk}
use Rattle.mc_desk.specs.declared.desk.Operator.{Operator}
use Rattle.mc_desk.specs.declared.log.Log.{Log}
use Rattle.mc_desk.specs.declared.request.Request.{Request}
use Rattle.mc_desk.specs.Histories.{Taking, taker_with, with_known, with_all_known}
use Rattle.mc_desk.specs.Desks.{IsOperatorOf, AreOperatorsOf, number_of, operator_count, accepted_of}
use Rattle.mc_desk.proofs.Indices.{length_more, head_or, tail_of}

-- what is known of those whose passes are back, and those whose passes aren't
pub record Going (desk : Desk) (all rest : List Operator) (known : List (List Request)) : Type 0 where
  pub known_is : known ++ map accepted_of rest ≡ map accepted_of all
  pub of : All (IsOperatorOf desk) rest
  pub numbers : map number_of rest ≡ range_with_len (length known) (length rest)

pub count_is : (desk : Desk) (all : List Operator) → AreOperatorsOf desk all → length all ≡ operator_count desk
count_is desk all are = sym (length-map all number_of) ∙ (ap length are.numbers ∙ length-range_with_len 0 (operator_count desk))

pub going_first : (desk : Desk) (all rest : List Operator) (known : List (List Request)) → rest ≡ all → known ≡ [] → AreOperatorsOf desk all → Going desk all rest known
going_first desk all rest known is none are =
    subst (λ (p : List Operator × List (List Request)). Going desk all p.0 p.1) (λ i. (sym is i, sym none i))
    (record { known_is = refl; of = are.of; numbers = are.numbers ∙ ap (λ (n : ℕ). range_with_len 0 n) (sym (count_is desk all are)) })

-- the next one is the one whose number comes next
pub going_number : (desk : Desk) (all rest next : List Operator) (who : Operator) (known : List (List Request)) → rest ≡ who ∷ next → Going desk all rest known → number_of who ≡ length known
going_number desk all rest next who known is going =
    ap (λ (l : List ℕ). head_or 0 l) (subst (λ (l : List Operator). map number_of l ≡ range_with_len (length known) (length l)) is going.numbers)

pub going_more : (desk : Desk) (all rest next : List Operator) (who : Operator) (known more : List (List Request)) → rest ≡ who ∷ next → more ≡ known ++ accepted_of who ∷ [] → Going desk all rest known → Going desk all next more
going_more desk all rest next who known more is grown going =
    let here : Going desk all (who ∷ next) known = subst (λ (l : List Operator). Going desk all l known) is going in
    subst (λ (l : List (List Request)). Going desk all next l) (sym grown) (record {
      known_is = append_assoc known (accepted_of who ∷ []) (map accepted_of next) ∙ here.known_is;
      of = All-tail (IsOperatorOf desk) who next here.of;
      numbers = ap tail_of here.numbers ∙ ap (λ (n : ℕ). range_with_len n (length next)) (sym (length_more known (accepted_of who)));
    })

pub going_last : (desk : Desk) (all rest : List Operator) (known : List (List Request)) → rest ≡ [] → Going desk all rest known → known ≡ map accepted_of all
going_last desk all rest known none going = sym (append-nil known) ∙ (ap (λ (l : List Operator). known ++ map accepted_of l) (sym none) ∙ going.known_is)

pub taking_with : (log : Log) (made : ℕ) (complete : Bool) → log ≡ taker_with made complete → Taking log
taking_with log made complete is = record { takes = ap (λ (l : Log). l.takes) is; asks = ap (λ (l : Log). l.asks) is }

pub taking_known : (first log : Log) (known : List (List Request)) → Taking first → log ≡ with_all_known first known → Taking log
taking_known first log known kind is = record { takes = ap (λ (l : Log). l.takes) is ∙ kind.takes; asks = ap (λ (l : Log). l.asks) is ∙ kind.asks }

-- one more is known
pub known_more : (first old new ended : Log) → old ≡ with_all_known first old.known → new ≡ with_known old ended → new ≡ with_all_known first new.known
known_more first old new ended is grown =
    grown ∙ (ap (λ (l : Log). with_known l ended) is ∙ ap (λ (k : List (List Request)). with_all_known first k) (sym (ap (λ (l : Log). l.known) grown)))
