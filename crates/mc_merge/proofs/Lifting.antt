-- What is kept of the entries of logs, woven, is kept of such entries woven.
use Rattle.std.proofs.Common.{◌≡◌, ◌==◌, if◌then◌else◌, Bool, true, false, ℕ, List, [], ◌∷◌, ◌++◌, map, refl, ap, sym, ◌∙◌, subst}
use Rattle.std.proofs.lemmas.Bool.{eq-eqb, eqb-true}
use Rattle.mc_merge.specs.Logs.{Own}
use Rattle.mc_merge.specs.Weaving.{of_part}
use Rattle.mc_merge.specs.Wholes.{made_of}
use Rattle.mc_merge.specs.declared.log.Made.{Made}

abbrev pub made_item : ℕ × Own → ℕ × Made
made_item item = (item.0, made_of item.1)

pub record Lifted (woven : List (ℕ × Made)) (logs : ℕ → List Own) : Type 0 where
  pub items : List (ℕ × Own)
  pub same : map made_item items ≡ woven
  pub each : (part : ℕ) → of_part part items ≡ logs part

none_kept : (log : List Own) → [] ≡ map made_of log → [] ≡ log
none_kept [] is = refl
none_kept (own ∷ log) is = absurd (cc)

record Cut (made : Made) (rest : List Made) (log : List Own) : Type 0 where
  first : Own
  others : List Own
  log_is : log ≡ first ∷ others
  made_is : made_of first ≡ made
  rest_is : rest ≡ map made_of others

cut : (made : Made) (rest : List Made) (log : List Own) → made ∷ rest ≡ map made_of log → Cut made rest log
cut made rest [] is = absurd (cc)
cut made rest (own ∷ log) is = record { first = own; others = log; log_is = refl; made_is = cc; rest_is = cc }

by_true : {X : Type 0} (test : Bool) (x : X) (xs ys : List X) → test ≡ true → (if test then x ∷ [] else []) ++ xs ≡ ys → x ∷ xs ≡ ys
by_true true x xs ys is same = same
by_true false x xs ys is same = absurd (cc)

-- what is left of each log where the first item is gone
abbrev left_of : (ℕ → List Own) → ℕ → List Own → ℕ → List Own
left_of logs at others part = if at == part then others else logs part

left_kept : (test : Bool) (made : Made) (rest : List Made) (log others here : List Own) → (test ≡ true → rest ≡ map made_of others)
    → (if test then made ∷ [] else []) ++ rest ≡ map made_of log → rest ≡ map made_of (if test then others else log)
left_kept true made rest log others here same is = same refl
left_kept false made rest log others here same is = is

whole_again : (test : Bool) (first : Own) (items log others : List Own) → (test ≡ true → log ≡ first ∷ others) → items ≡ (if test then others else log) → (if test then first ∷ [] else []) ++ items ≡ log
whole_again true first items log others is same = ap (λ l. first ∷ l) same ∙ sym (is refl)
whole_again false first items log others is same = same

pub lifted : (woven : List (ℕ × Made)) (logs : ℕ → List Own) → ((part : ℕ) → of_part part woven ≡ map made_of (logs part)) → Lifted woven logs
lifted [] logs each = record { items = []; same = refl; each = λ part. none_kept (logs part) (each part) }
lifted (item ∷ woven) logs each =
    let is = cut item.1 (of_part item.0 woven) (logs item.0) (by_true (item.0 == item.0) item.1 (of_part item.0 woven) (map made_of (logs item.0)) (eq-eqb item.0 item.0 refl) (each item.0)) in
    let rest = lifted woven (left_of logs item.0 is.others)
    (λ part. left_kept (item.0 == part) item.1 (of_part part woven) (logs part) is.others []
    (λ same. subst (λ (n : ℕ). of_part n woven ≡ map made_of is.others) (eqb-true item.0 part same) is.rest_is) (each part)) in
    record {
      items = (item.0, is.first) ∷ rest.items;
      same = ap (λ (m : Made). (item.0, m) ∷ map made_item rest.items) is.made_is ∙ ap (λ (l : List (ℕ × Made)). item ∷ l) rest.same;
      each = λ part. whole_again (item.0 == part) is.first (of_part part rest.items) (logs part) is.others
          (λ same. subst (λ (n : ℕ). logs n ≡ is.first ∷ is.others) (eqb-true item.0 part same) is.log_is) (rest.each part);
    }
