-- Passes that are given to lists one by one.
use Rattle.std.proofs.Common.{◌≡◌, ℕ, ◌+◌, ◌<◌, List, [], ◌∷◌, ◌++◌, length, slice_index_or, slice_set, refl, sym, ◌∙◌, ap, subst, append_assoc, arith}
use Rattle.std.proofs.lemmas.List.{length-append}
use Rattle.mc_desk.specs.declared.desk.Operator.{Operator}
use Rattle.mc_desks.proofs.Lists.{more_long}
use Rattle.mc_desks.specs.Passes.{list_at, with_each}

-- so many lists have their pass, and the others are to get one each of those that are left
pub record IsDealing (old now : List (List Operator)) (row rest : List Operator) (at : ℕ) : Type 0 where
  pub front : List (List Operator)
  pub back : List (List Operator)
  pub now_is : now ≡ front ++ back
  pub at_is : at ≡ length front
  pub whole : with_each old row ≡ front ++ with_each back rest
  pub long : length rest ≡ length back

pub dealing_none : (old now : List (List Operator)) (row rest : List Operator) → now ≡ old → rest ≡ row → length row ≡ length old → IsDealing old now row rest 0
dealing_none old now row rest same all long = record {
  front = [];
  back = old;
  now_is = same;
  at_is = refl;
  whole = ap (with_each old) (sym all);
  long = ap (λ (l : List Operator). length l) all ∙ long;
}

set_after : (front : List (List Operator)) (list new : List Operator) (back : List (List Operator)) → slice_set (front ++ list ∷ back) (length front) new ≡ (front ++ new ∷ []) ++ back
set_after [] list new back = refl
set_after (first ∷ front) list new back = ap (λ (l : List (List Operator)). first ∷ l) (set_after front list new back)

read_after : (front : List (List Operator)) (list : List Operator) (back : List (List Operator)) → list_at (front ++ list ∷ back) (length front) ≡ list
read_after [] list back = refl
read_after (first ∷ front) list back = read_after front list back

more_by : (old now more front back : List (List Operator)) (row rest next : List Operator) (at : ℕ) (pass : Operator) → now ≡ front ++ back → at ≡ length front → with_each old row ≡ front ++ with_each back rest → length rest ≡ length back
    → rest ≡ pass ∷ next → more ≡ slice_set now at (list_at now at ++ pass ∷ []) → IsDealing old more row next (at + 1)
more_by old now more front [] row rest next at pass is here whole long first set =
    let one : length rest ≡ length (pass ∷ next) = ap (λ (l : List Operator). length l) first in
    absurd (omega (arith, one, long))
more_by old now more front (list ∷ back) row rest next at pass is here whole long first set =
    let one : length rest ≡ length (pass ∷ next) = ap (λ (l : List Operator). length l) first in
    let found : list_at now at ≡ list = ap (λ (l : List (List Operator)). list_at l at) is ∙ (ap (λ (n : ℕ). list_at (front ++ list ∷ back) n) here ∙ read_after front list back) in
    record {
      front = front ++ (list ++ pass ∷ []) ∷ [];
      back = back;
      now_is = set ∙ (ap (λ (l : List Operator). slice_set now at (l ++ pass ∷ [])) found
          ∙ (ap (λ (l : List (List Operator)). slice_set l at (list ++ pass ∷ [])) is ∙ (ap (λ (n : ℕ). slice_set (front ++ list ∷ back) n (list ++ pass ∷ [])) here ∙ set_after front list (list ++ pass ∷ []) back)));
      at_is = let more = more_long front (list ++ pass ∷ []) in omega (arith, here, more);
      whole = whole ∙ (ap (λ (l : List Operator). front ++ with_each (list ∷ back) l) first ∙ sym (append_assoc front ((list ++ pass ∷ []) ∷ []) (with_each back next)));
      long = omega (arith, one, long);
    }

pub dealing_more : (old now more : List (List Operator)) (row rest next : List Operator) (at : ℕ) (pass : Operator) → IsDealing old now row rest at → rest ≡ pass ∷ next → more ≡ slice_set now at (list_at now at ++ pass ∷ []) → IsDealing old more row next (at + 1)
dealing_more old now more row rest next at pass d first set = more_by old now more d.front d.back row rest next at pass d.now_is d.at_is d.whole d.long first set

-- the next list is there
pub dealing_within : (old now : List (List Operator)) (row rest next : List Operator) (at : ℕ) (pass : Operator) → IsDealing old now row rest at → rest ≡ pass ∷ next → at < length now
dealing_within old now row rest next at pass d first =
    let one : length rest ≡ length (pass ∷ next) = ap (λ (l : List Operator). length l) first in
    let two : length now ≡ length (d.front ++ d.back) = ap (λ (l : List (List Operator)). length l) d.now_is in
    let three = length-append d.front d.back in
    let here = d.at_is in
    let long = d.long in
    omega (arith, one, two, three, here, long)

none_back : (back : List (List Operator)) (rest : List Operator) → rest ≡ [] → with_each back rest ≡ []
none_back [] rest none = refl
none_back (list ∷ back) rest none = ap (with_each (list ∷ back)) none

nothing : (back : List (List Operator)) → length back ≡ 0 → back ≡ []
nothing [] none = refl
nothing (list ∷ back) none = absurd (omega (arith, none))

pub dealt_all : (old now : List (List Operator)) (row rest : List Operator) (at : ℕ) → IsDealing old now row rest at → rest ≡ [] → now ≡ with_each old row
dealt_all old now row rest at d none =
    let one : length rest ≡ 0 = ap (λ (l : List Operator). length l) none in
    let long = d.long in
    let bare : d.back ≡ [] = nothing d.back (omega (arith, one, long)) in
    d.now_is ∙ (ap (λ (l : List (List Operator)). d.front ++ l) (bare ∙ sym (none_back d.back rest none)) ∙ sym d.whole)
