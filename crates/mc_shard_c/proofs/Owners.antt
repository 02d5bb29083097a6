-- Where any boxes of channel ends make a shard, those that are found do.
use Rattle.std.proofs.Common.{◌≡◌, ◌<◌, ℕ, ◌+◌, zero, suc, List, [], ◌∷◌, length, slice_set, slice_get, slice_index_or, Some, refl, sym, subst, ◌∙◌, arith}
use Rattle.std.specs.Prelude.{replicate}
use Rattle.std.proofs.lemmas.Grind.{common_steps}
use Rattle.std.proofs.lemmas.List.{length-set}
use Rattle.mc_shard.specs.States.{Places, places_of}
use Rattle.mc_shard_c.specs.Laying.{OwnersFit, owned_by, owned_from}
use Rattle.mc_shard_c.proofs.Laid.{from_length}

-- the end has the box that it has there
abbrev Right : List ℕ → List ℕ → ℕ → Type 0
Right owners found end = slice_index_or found end 0 ≡ slice_index_or owners end 0

set_keeps : (owners found : List ℕ) (at who end : ℕ) → slice_index_or owners at 0 ≡ who → Right owners found end
    → Right owners (slice_set found at who) end
set_keeps [] [] at who end here right = right
set_keeps (o ∷ owners) [] at who end here right = right
set_keeps owners (f ∷ found) zero who zero here right = sym here
set_keeps owners (f ∷ found) zero who (suc end) here right = right
set_keeps owners (f ∷ found) (suc at) who zero here right = right
set_keeps [] (f ∷ found) (suc at) who (suc end) here right = set_keeps [] found at who end here right
set_keeps (o ∷ owners) (f ∷ found) (suc at) who (suc end) here right = set_keeps owners found at who end here right

set_here : (found : List ℕ) (at who : ℕ) → at < length found → slice_index_or (slice_set found at who) at 0 ≡ who
set_here [] at who low = absurd (omega (arith, low))
set_here (f ∷ found) zero who low = refl
set_here (f ∷ found) (suc at) who low = set_here found at who (omega (arith, low))

-- each of these places is at an end of this box
abbrev AreOf : List ℕ → ℕ → List (ℕ × ℕ) → Type 0
AreOf owners who places = (slot : ℕ) (place : ℕ × ℕ) → slice_get places slot ≡ Some place → slice_index_or owners place.0 0 ≡ who

by_keeps : (owners : List ℕ) (who : ℕ) (places : List (ℕ × ℕ)) (found : List ℕ) (end : ℕ) → AreOf owners who places
    → Right owners found end → Right owners (owned_by who places found) end
by_keeps owners who [] found end of right = right
by_keeps owners who (place ∷ places) found end of right =
    by_keeps owners who places (slice_set found place.0 who) end (λ slot p at. of (suc slot) p at)
    (set_keeps owners found place.0 who end (of zero place refl) right)

by_sets : (owners : List ℕ) (who : ℕ) (places : List (ℕ × ℕ)) (found : List ℕ) (slot : ℕ) (place : ℕ × ℕ) → AreOf owners who places
    → slice_get places slot ≡ Some place → place.0 < length found → Right owners (owned_by who places found) place.0
by_sets owners who [] found slot place of at low = absurd (cc)
by_sets owners who (first ∷ places) found zero place of at low =
    let is : first ≡ place = cc in
    by_keeps owners who places (slice_set found first.0 who) place.0 (λ s p there. of (suc s) p there)
    (subst (λ (p : ℕ × ℕ). slice_index_or (slice_set found first.0 who) p.0 0 ≡ slice_index_or owners p.0 0) is
    (set_here found first.0 who (subst (λ (p : ℕ × ℕ). p.0 < length found) (sym is) low) ∙ sym (of zero first refl)))
by_sets owners who (first ∷ places) found (suc slot) place of at low =
    by_sets owners who places (slice_set found first.0 who) slot place (λ s p there. of (suc s) p there) at
    (subst (λ (n : ℕ). place.0 < n) (sym (length-set found first.0 who)) low)

-- the same of all boxes, from a number on
abbrev AreAllOf : List ℕ → ℕ → Places → Type 0
AreAllOf owners start places = (who slot : ℕ) (place : ℕ × ℕ) → slice_get (places_of places who) slot ≡ Some place
    → slice_index_or owners place.0 0 ≡ start + who

rest_of : (owners : List ℕ) (start : ℕ) (mine : List (ℕ × ℕ)) (rest : Places) → AreAllOf owners start (mine ∷ rest)
    → AreAllOf owners (start + 1) rest
rest_of owners start mine rest of who slot place at = let one = of (suc who) slot place at in omega (arith, one)

first_of : (owners : List ℕ) (start : ℕ) (mine : List (ℕ × ℕ)) (rest : Places) → AreAllOf owners start (mine ∷ rest)
    → AreOf owners start mine
first_of owners start mine rest of slot place at = let one = of zero slot place at in omega (arith, one)

from_keeps : (owners : List ℕ) (start : ℕ) (places : Places) (found : List ℕ) (end : ℕ) → AreAllOf owners start places
    → Right owners found end → Right owners (owned_from start places found) end
from_keeps owners start [] found end of right = right
from_keeps owners start (mine ∷ rest) found end of right =
    from_keeps owners (start + 1) rest (owned_by start mine found) end (rest_of owners start mine rest of)
    (by_keeps owners start mine found end (first_of owners start mine rest of) right)

by_length : (who : ℕ) (places : List (ℕ × ℕ)) (found : List ℕ) → length (owned_by who places found) ≡ length found
by_length who [] found = refl
by_length who (place ∷ places) found = by_length who places (slice_set found place.0 who) ∙ length-set found place.0 who

from_sets : (owners : List ℕ) (start : ℕ) (places : Places) (found : List ℕ) (who slot : ℕ) (place : ℕ × ℕ) → AreAllOf owners start places
    → slice_get (places_of places who) slot ≡ Some place → place.0 < length found → Right owners (owned_from start places found) place.0
from_sets owners start [] found who slot place of at low = absurd (cc)
from_sets owners start (mine ∷ rest) found zero slot place of at low =
    from_keeps owners (start + 1) rest (owned_by start mine found) place.0 (rest_of owners start mine rest of)
    (by_sets owners start mine found slot place (first_of owners start mine rest of) at low)
from_sets owners start (mine ∷ rest) found (suc who) slot place of at low =
    from_sets owners (start + 1) rest (owned_by start mine found) who slot place (rest_of owners start mine rest of) at
    (subst (λ (n : ℕ). place.0 < n) (sym (by_length start mine found)) low)

pub owners_fit : OwnersFit
owners_fit boxes places owners laid =
    let none : List ℕ = replicate (length owners) 0 in
    let long : length none ≡ length owners = grind (arith, common_steps) in
    let count : length (owned_from 0 places none) ≡ length owners = from_length 0 places none ∙ long in
    let of : AreAllOf owners 0 places = λ who slot place at. let one = laid.owned who slot place at in omega (arith, one) in
    record {
      box_count = laid.box_count;
      ends = λ who slot place at. subst (λ (n : ℕ). place.0 < n) (sym count) (laid.ends who slot place at);
      owned = λ who slot place at. from_sets owners 0 places none who slot place of at (subst (λ (n : ℕ). place.0 < n) (sym long) (laid.ends who slot place at))
          ∙ laid.owned who slot place at;
    }
