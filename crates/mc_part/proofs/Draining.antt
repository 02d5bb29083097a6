-- What a ring gave and what was left in it was put into it, where nothing was in it before; and what was heard of it.
use Rattle.std.proofs.Common.{◌≡◌, ◌⊎◌, inl, inr, ℕ, ◌≤◌, max, List, [], ◌∷◌, ◌++◌, append_assoc, ap, sym, ◌∙◌, subst, arith}
use Rattle.std.specs.List.{Contains}
use Rattle.std.proofs.Math.Nat.{max-eq_left, max-eq_right}
use Rattle.std.proofs.lemmas.Bool.{cases_lt}
use Rattle.std.proofs.lemmas.List.{append_cancel_left, map-append}
use Rattle.std.proofs.lemmas.List.Elements.{Contains-append_left, Contains-push}
use Rattle.mc_merge.specs.Clocks.{item_stamps}
use Rattle.mc_part.specs.Drains.{DrainsMeet, RingsAreDrained}
use Rattle.mc_port.specs.declared.stamped.Stamped.{Stamped}

-- ---- what was heard

heard_stays : (items : List Stamped) (item : Stamped) (heard heard_2 heard_3 : ℕ) → heard_3 ≡ heard_2 → (heard_2 ≡ heard) ⊎ Contains (item_stamps items) heard_2
    → (heard_3 ≡ heard) ⊎ Contains (item_stamps (items ++ item ∷ [])) heard_3
heard_stays items item heard heard_2 heard_3 same (inl is) = inl (same ∙ is)
heard_stays items item heard heard_2 heard_3 same (inr has) =
    inr (subst (λ (n : ℕ). Contains (item_stamps (items ++ item ∷ [])) n) (sym same)
    (subst (λ (l : List ℕ). Contains l heard_2) (sym (map-append (λ (i : Stamped). i.stamp) items (item ∷ []))) (Contains-append_left (item_stamps items) (item.stamp ∷ []) heard_2 has)))

pub heard_from : (items : List Stamped) (item : Stamped) (heard heard_2 heard_3 : ℕ) → heard_3 ≡ max heard_2 item.stamp → (heard_2 ≡ heard) ⊎ Contains (item_stamps items) heard_2
    → (heard_3 ≡ heard) ⊎ Contains (item_stamps (items ++ item ∷ [])) heard_3
heard_from items item heard heard_2 heard_3 is from = elim (cases_lt item.stamp heard_2) [
  | inl less ↦ heard_stays items item heard heard_2 heard_3 (is ∙ max-eq_left (let least : item.stamp ≤ heard_2 = omega arith in least)) from
  | inr least ↦ inr (subst (λ (n : ℕ). Contains (item_stamps (items ++ item ∷ [])) n) (sym (is ∙ max-eq_right least))
      (subst (λ (l : List ℕ). Contains l item.stamp) (sym (map-append (λ (i : Stamped). i.stamp) items (item ∷ []))) (Contains-push (item_stamps items) item.stamp)))
]

-- ---- drains

pub drains_meet : DrainsMeet
drains_meet received given gave put left same is =
    append_cancel_left received (gave ++ left) put (sym (append_assoc received gave left) ∙ (is ∙ ap (λ (l : List Stamped). l ++ put) (sym same)))

pub rings_are_drained : RingsAreDrained
rings_are_drained layout parts drained lane is = record {
  left = is.left;
  ring = drains_meet is.received is.given ((parts (layout.takers lane).0).gave (layout.takers lane).1) ((parts (layout.senders lane).0).put (layout.senders lane).1) is.left is.even
      (ap (λ (l : List Stamped). l ++ is.left) (sym is.gave) ∙ (is.all ∙ is.put));
  rest = is.rest;
  empty = is.empty;
}
