-- Boxes, places and owners that make a shard, box by box.
use Rattle.std.proofs.Common.{◌≡◌, ◌<◌, ◌≤◌, inl, inr, ℕ, ◌+◌, zero, suc, List, [], ◌∷◌, length, Some, slice_get, ap, sym, ◌∙◌, subst, arith}
use Rattle.std.proofs.Math.ListN.{get_or}
use Rattle.std.proofs.lemmas.Bool.{cases_eq}
use Rattle.mc_box.specs.Boxes.{BoxState}
use Rattle.mc_shard.specs.Shards.{AreLaid, AtOwnEnds, IsOwn}
use Rattle.mc_shard.specs.States.{Places, places_of}
use Rattle.mc_shard.proofs.Shaped.{there_is}

got_inside : {X : Type 0} (xs : List X) (i : ℕ) (x : X) → slice_get xs i ≡ Some x → i < length xs
got_inside [] i x at = absurd (cc)
got_inside (y ∷ xs) zero x at = omega arith
got_inside (y ∷ xs) (suc i) x at = let low = got_inside xs i x at in omega (arith, low)

-- a slot that has a place is of a box that is there
some_inside : (places : Places) (who local : ℕ) (place : ℕ × ℕ) → slice_get (places_of places who) local ≡ Some place
    → who < length places
some_inside [] who local place at = absurd (cc)
some_inside (one ∷ rest) zero local place at = omega arith
some_inside (one ∷ rest) (suc who) local place at =
    let low = some_inside rest who local place at in omega (arith, low)

pub all_laid : (boxes : List BoxState) (places : Places) (owners : List ℕ) → length places ≡ length boxes
    → ((who : ℕ) → who < length places → AtOwnEnds owners who (places_of places who)) → AreLaid boxes places owners
all_laid boxes places owners count own = record {
  box_count = count;
  ends = λ who local place at. (own who (some_inside places who local place at) local place at).0;
  owned = λ who local place at. (own who (some_inside places who local place at) local place at).1;
}

-- where one box isn't at its ends, they make none
pub one_unlaid : (boxes : List BoxState) (places : Places) (owners : List ℕ) (who : ℕ) (mine : List (ℕ × ℕ))
    → who < length places → mine ≡ get_or places who mine → (AtOwnEnds owners who mine → ⊥)
    → AreLaid boxes places owners → ⊥
one_unlaid boxes places owners who mine inside is unlike laid =
    let same : places_of places who ≡ mine = there_is places who [] mine inside ∙ sym is in
    unlike (λ local place at.
    let there = ap (λ (l : List (ℕ × ℕ)). slice_get l local) same ∙ at in
    (laid.ends who local place there, laid.owned who local place there))

-- and one more box
pub one_more : (places : Places) (owners : List ℕ) (count : ℕ) (mine : List (ℕ × ℕ))
    → count < length places → mine ≡ get_or places count mine → AtOwnEnds owners count mine
    → ((who : ℕ) → who < count → AtOwnEnds owners who (places_of places who))
    → (who : ℕ) → who < count + 1 → AtOwnEnds owners who (places_of places who)
one_more places owners count mine inside is own before who low = elim (cases_eq who count) [
  | inr apart ↦ before who (omega arith)
  | inl same ↦
      let mine_is : mine ≡ places_of places count = is ∙ there_is places count mine [] inside in
      let at_count : AtOwnEnds owners count (places_of places count) = subst (λ (l : List (ℕ × ℕ)). AtOwnEnds owners count l) mine_is own in
      subst (λ (n : ℕ). AtOwnEnds owners n (places_of places n)) (sym same) at_count
]

-- ---- the slots of one box

-- what is got at a place is what stands there
got_is : {X : Type 0} (xs : List X) (i : ℕ) (x d : X) → slice_get xs i ≡ Some x → get_or xs i d ≡ x
got_is [] i x d at = absurd (cc)
got_is (y ∷ xs) zero x d at = cc
got_is (y ∷ xs) (suc i) x d at = got_is xs i x d at

-- one more slot is at an end of the box
pub slots_more : (owners : List ℕ) (who : ℕ) (places : List (ℕ × ℕ)) (count : ℕ) (here : ℕ × ℕ)
    → here ≡ get_or places count here → IsOwn owners who here.0
    → ((slot : ℕ) (place : ℕ × ℕ) → slot < count → slice_get places slot ≡ Some place → IsOwn owners who place.0)
    → (slot : ℕ) (place : ℕ × ℕ) → slot < count + 1 → slice_get places slot ≡ Some place → IsOwn owners who place.0
slots_more owners who places count here is own before slot place low at = elim (cases_eq slot count) [
  | inr apart ↦ before slot place (omega arith) at
  | inl same ↦
      let at_count : slice_get places count ≡ Some place = subst (λ (n : ℕ). slice_get places n ≡ Some place) same at in
      let place_is : here ≡ place = is ∙ got_is places count place here at_count in
      subst (λ (p : ℕ × ℕ). IsOwn owners who p.0) place_is own
]

-- no slot is past the last
pub slots_all : (owners : List ℕ) (who : ℕ) (places : List (ℕ × ℕ)) (count : ℕ) → length places ≤ count
    → ((slot : ℕ) (place : ℕ × ℕ) → slot < count → slice_get places slot ≡ Some place → IsOwn owners who place.0)
    → AtOwnEnds owners who places
slots_all owners who places count all before local place at =
    let inside : local < length places = got_inside places local place at in
    before local place (omega arith) at
