-- Words with a space before each but the first.
use Rattle.std.proofs.Common.{◌≡◌, ◌≤◌, ℕ, List, [], ◌∷◌, ◌++◌, length, take, map, flat_map, refl, sym, ap, ◌∙◌, append-nil, append_assoc, take_all, take_at, Bor}
use Rattle.std.specs.List.{join_with_byte}
use Rattle.mc_table.specs.Words.{line_of}

abbrev pub bytes_of : Bor (List ℕ) → List ℕ
bytes_of word = word.now

abbrev pub behind_space : Bor (List ℕ) → List ℕ
behind_space word = 32 ∷ word.now

-- words joined by spaces are the first, and the others with a space before each
pub join-cons : (word : List ℕ) (words : List (Bor (List ℕ))) → join_with_byte 32 (word ∷ map bytes_of words) ≡ word ++ flat_map behind_space words
join-cons word [] = rw (append-nil word) refl
join-cons word (next ∷ words) = ap (λ (rest : List ℕ). word ++ 32 ∷ rest) (join-cons next.now words)

-- the first word, all others after spaces, and a line end are the line
pub line_is : (before first : List ℕ) (others : List (Bor (List ℕ))) (i : ℕ) → length others ≤ i
    → ((before ++ first) ++ flat_map behind_space (take i others)) ++ 10 ∷ [] ≡ before ++ line_of (first ∷ map bytes_of others)
line_is before first others i past =
    rw (take_all i others past, join-cons first others) (append_assoc (before ++ first) (flat_map behind_space others) (10 ∷ []) ∙ append_assoc before first (flat_map behind_space others ++ 10 ∷ []) ∙ ap (λ (line : List ℕ). before ++ line) (sym (append_assoc first (flat_map behind_space others) (10 ∷ []))))

-- what stood before is still the front
pub begins : (before first more : List ℕ) → take (length before) ((before ++ first) ++ more) ≡ before
begins before first more = rw (append_assoc before first more) (take_at before (first ++ more) (length before) refl)

-- and still is, where more comes after it
pub begins_more : (before first more last : List ℕ) → take (length before) (((before ++ first) ++ more) ++ last) ≡ before
begins_more before first more last = rw (append_assoc (before ++ first) more last) (begins before first (more ++ last))
