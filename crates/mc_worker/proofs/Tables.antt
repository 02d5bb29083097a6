-- The table by which slots are found.
use Rattle.std.proofs.Common.{◌≡◌, ◌≢◌, ℕ, ◌+◌, ◌<◌, Some, List, inl, inr, length, slice_get, slice_index, slice_set, refl, ap, sym, ◌∙◌, subst, arith}
use Rattle.std.proofs.lemmas.Bool.{cases_lt}
use Rattle.std.proofs.lemmas.List.{get_or-set_other, get_or-set_same}
use Rattle.mc_model.specs.declared.channel.TheConstants.{TUNNEL_LIMIT}
use Rattle.mc_worker.specs.Places.{ArePlaces, IsTable, key}
use Rattle.mc_worker.specs.declared.limit.TheConstants.{END_LIMIT, TABLE_LEN}

-- where the table's entry is another place, no slot has this one
pub not_there : (places : List (ℕ × ℕ)) (table : List ℕ) (found end tunnel : ℕ) → IsTable places table → found ≡ slice_index table (key (end, tunnel)) → (slice_get places found ≡ Some (end, tunnel) → ⊥)
    → (slot : ℕ) → slice_get places slot ≡ Some (end, tunnel) → ⊥
not_there places table found end tunnel is at other slot there = other (ap (slice_get places) (at ∙ is slot (end, tunnel) there) ∙ there)

same_place : (a b : ℕ × ℕ) → a.0 ≡ b.0 → a.1 ≡ b.1 → a ≡ b
same_place (a, c) (b, d) p q = rw (p, q) refl

same_key : (a b : ℕ × ℕ) → a.1 < TUNNEL_LIMIT → b.1 < TUNNEL_LIMIT → key a ≡ key b → a ≡ b
same_key a b p q e = same_place a b (omega (arith, p, q, e)) (omega (arith, p, q, e))

key_inside : (place : ℕ × ℕ) → place.0 < END_LIMIT → place.1 < TUNNEL_LIMIT → key place < TABLE_LEN
key_inside place p q = omega (arith, p, q)

-- one slot more is in the table
pub filled : (places : List (ℕ × ℕ)) (table : List ℕ) (i : ℕ) (at : ℕ × ℕ) → ArePlaces places → slice_get places i ≡ Some at → length table ≡ TABLE_LEN
    → ((slot : ℕ) (place : ℕ × ℕ) → slot < i → slice_get places slot ≡ Some place → slice_index table (key place) ≡ slot)
    → (slot : ℕ) (place : ℕ × ℕ) → slot < i + 1 → slice_get places slot ≡ Some place → slice_index (slice_set table (key at) i) (key place) ≡ slot
filled places table i at are here long before slot place below there = elim (cases_lt slot i) [
  | inl less ↦
      let other : key place ≢ key at =
      λ same. let one : place ≡ at = same_key place at (are.tunnels slot place there) (are.tunnels i at here) same in
      let equal : slot ≡ i = are.apart slot i at (there ∙ ap Some one) here in
      absurd (omega (arith, equal, less)) in
      get_or-set_other table (key at) (key place) i 0 other ∙ before slot place less there
  | inr past ↦
      let equal : slot ≡ i = omega (arith, past, below) in
      let one : at ≡ place = let two : slice_get places slot ≡ Some at = subst (λ (k : ℕ). slice_get places k ≡ Some at) (sym equal) here in cc in
      subst (λ (p : ℕ × ℕ). slice_index (slice_set table (key at) i) (key p) ≡ slot) one
      (get_or-set_same table (key at) i 0 (subst (λ (n : ℕ). key at < n) (sym long) (key_inside at (are.ends i at here) (are.tunnels i at here))) ∙ sym equal)
]
