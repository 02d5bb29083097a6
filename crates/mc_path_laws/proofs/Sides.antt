-- Both slots of the tunnels that a walk goes over: how many they are, which stands where, and what holds of all of them.
use Rattle.std.proofs.Common.{◌≡◌, ◌<◌, ◌+◌, ◌*◌, ◌++◌, ℕ, zero, suc, Option, Some, None, List, [], ◌∷◌, All, get_or, length, map, reverse, refl, ap, sym, ◌∙◌, arith}
use Rattle.std.proofs.lemmas.Grind.{flat_map-append}
use Rattle.std.proofs.lemmas.List.{reverse-append}
use Rattle.std.proofs.lemmas.List.Elements.{All-nil, All-cons}
use Rattle.mc_model.specs.Paths.{both_sides, next_slot, partner_of, walk}
use Rattle.mc_model.specs.Worlds.{WorldState, far}
use Rattle.mc_laws.proofs.Numbers.{far_back}

-- two for each tunnel
pub length_sides : (slots : List ℕ) → length (both_sides slots) ≡ 2 * length slots
length_sides [] = refl
length_sides (s ∷ slots) = omega (arith, length_sides slots)

-- first the one, and then the far one
pub near_at : (slots : List ℕ) (k : ℕ) → get_or (both_sides slots) (2 * k) 0 ≡ get_or slots k 0
near_at [] k = refl
near_at (s ∷ slots) zero = refl
near_at (s ∷ slots) (suc k) = let two : 2 * suc k ≡ suc (suc (2 * k)) = omega arith in ap (λ (n : ℕ). get_or (both_sides (s ∷ slots)) n 0) two ∙ near_at slots k

pub far_at : (slots : List ℕ) (k : ℕ) → k < length slots → get_or (both_sides slots) (2 * k + 1) 0 ≡ far (get_or slots k 0)
far_at [] k below = absurd (omega (arith, below))
far_at (s ∷ slots) zero below = refl
far_at (s ∷ slots) (suc k) below =
    let three : 2 * suc k + 1 ≡ suc (suc (2 * k + 1)) = omega arith in
    ap (λ (n : ℕ). get_or (both_sides (s ∷ slots)) n 0) three ∙ far_at slots k (omega (arith, below))

-- the same tunnels, the other way round
abbrev pub turned : List ℕ → List ℕ
turned slots = reverse (map far slots)

-- have the same slots, the other way round
pub sides_turned : (slots : List ℕ) → both_sides (turned slots) ≡ reverse (both_sides slots)
sides_turned [] = refl
sides_turned (s ∷ slots) =
    ap both_sides (reverse-append (far s ∷ []) (map far slots))
    ∙ (flat_map-append (λ (t : ℕ). t ∷ far t ∷ []) (turned slots) (far s ∷ [])
    ∙ (ap (λ (n : ℕ). both_sides (turned slots) ++ far s ∷ n ∷ []) (far_back s)
    ∙ (ap (λ (l : List ℕ). l ++ far s ∷ s ∷ []) (sides_turned slots) ∙ sym (reverse-append (s ∷ far s ∷ []) (both_sides slots)))))

-- what passes from each slot to its far slot and to its partner holds of all slots that a walk goes over
pub all_along : (P Q : ℕ → Type 0) (world : WorldState) → ((s : ℕ) → P s → Q s) → ((s : ℕ) → P s → P (far s)) → ((s t : ℕ) → P s → partner_of world s ≡ Some t → P t)
    → (most : ℕ) (next : Option ℕ) → ((s : ℕ) → next ≡ Some s → P s) → All Q (both_sides (walk world next most))
all_along P Q world here over on most None first = All-nil Q
all_along P Q world here over on zero (Some s) first = All-nil Q
all_along P Q world here over on (suc most) (Some s) first =
    let one : P s = first s refl in
    All-cons Q s (far s ∷ both_sides (walk world (next_slot world s) most)) (here s one)
    (All-cons Q (far s) (both_sides (walk world (next_slot world s) most)) (here (far s) (over s one))
    (all_along P Q world here over on most (next_slot world s) (λ t is. on (far s) t (over s one) is)))
