-- The operators of a new desk, one after another.
use Rattle.std.proofs.Common.{◌≡◌, ℕ, ◌+◌, List, [], ◌∷◌, ◌++◌, map, sym, refl, ap, ◌∙◌, subst, arith}
use Rattle.std.specs.List.{All, range_with_len}
use Rattle.std.proofs.lemmas.List.{map_push}
use Rattle.std.proofs.lemmas.List.Elements.{All-push}
use Rattle.mc_desk.specs.declared.desk.Desk.{Desk}
use Rattle.mc_desk.specs.declared.desk.Operator.{Operator}
use Rattle.mc_desk.specs.Desks.{IsOperatorOf, number_of, accepted_of}
use Rattle.mc_desk.proofs.Indices.{range_more}

-- so many operators
pub record Dealt (desk : Desk) (count : ℕ) (operators : List Operator) : Type 0 where
  pub of : All (IsOperatorOf desk) operators
  pub numbers : map number_of operators ≡ range_with_len 0 count
  pub accepted : All (λ who. accepted_of who ≡ []) operators

pub dealt_none : (desk : Desk) → Dealt desk 0 []
dealt_none desk = record { of = λ k d low. absurd (omega arith); numbers = refl; accepted = λ k d low. absurd (omega arith) }

-- one operator more
pub dealt_more : (desk : Desk) (count : ℕ) (operators more : List Operator) (who : Operator) → more ≡ operators ++ who ∷ []
    → IsOperatorOf desk who → number_of who ≡ count → accepted_of who ≡ [] → Dealt desk count operators → Dealt desk (count + 1) more
dealt_more desk count operators more who is mine number none dealt =
    subst (λ (l : List Operator). Dealt desk (count + 1) l) (sym is) (record {
      of = All-push (IsOperatorOf desk) operators who dealt.of mine;
      numbers = map_push number_of operators who ∙ ((λ i. dealt.numbers i ++ number i ∷ []) ∙ sym (range_more 0 count ∙ ap (λ (n : ℕ). range_with_len 0 count ++ n ∷ []) (omega arith)));
      accepted = All-push (λ who. accepted_of who ≡ []) operators who dealt.accepted none;
    })
