-- Lists of boxes, each once, for more of them.
use Rattle.std.proofs.Common.{◌≡◌, ◌<◌, ◌≤◌, ◌+◌, ◌∙◌, ℕ, List, [], ◌∷◌, ◌++◌, drop, flat_map, length, refl, ap, sym}
use Rattle.std.proofs.Math.ListN.{get_or}
use Rattle.std.proofs.lemmas.List.{drop_all, drop_more}
use Rattle.mc_ladder_choice.specs.Boxes.{with_all_new, with_new}

-- the boxes of two lists are those of the first, and then of the second
pub new_append : (boxes others more : List ℕ) → with_all_new boxes (others ++ more) ≡ with_all_new (with_all_new boxes others) more
new_append boxes [] more = refl
new_append boxes (who ∷ others) more = new_append (with_new boxes who) others more

-- one box more of a list: what is left then gives the whole
pub one_more : (boxes next others : List ℕ) (i who : ℕ) (whole : List ℕ) → i < length others → next ≡ with_new boxes (get_or others i who)
    → with_all_new boxes (drop i others) ≡ whole → with_all_new next (drop (i + 1) others) ≡ whole
one_more boxes next others i who whole below is now =
    ap (λ (b : List ℕ). with_all_new b (drop (i + 1) others)) is ∙ (ap (with_all_new boxes) (sym (drop_more others i who below)) ∙ now)

-- the boxes of one thing more
pub given_more : {X : Type 0} (f : X → List ℕ) (boxes next : List ℕ) (xs : List X) (i : ℕ) (x : X) (whole : List ℕ) → i < length xs → get_or xs i x ≡ x → next ≡ with_all_new boxes (f x)
    → with_all_new boxes (flat_map f (drop i xs)) ≡ whole → with_all_new next (flat_map f (drop (i + 1) xs)) ≡ whole
given_more f boxes next xs i x whole below one is now =
    ap (λ (b : List ℕ). with_all_new b (flat_map f (drop (i + 1) xs))) is
    ∙ (sym (new_append boxes (f x) (flat_map f (drop (i + 1) xs)))
    ∙ (ap (λ y. with_all_new boxes (f y ++ flat_map f (drop (i + 1) xs))) (sym one)
    ∙ (ap (λ l. with_all_new boxes (flat_map f l)) (sym (drop_more xs i x below)) ∙ now)))

pub all_given : {X : Type 0} (f : X → List ℕ) (boxes : List ℕ) (xs : List X) (i : ℕ) (whole : List ℕ) → length xs ≤ i → with_all_new boxes (flat_map f (drop i xs)) ≡ whole → boxes ≡ whole
all_given f boxes xs i whole past now = ap (λ l. with_all_new boxes (flat_map f l)) (sym (drop_all i xs past)) ∙ now
