-- How many words a line may have: at most one for two bytes, since a space stands before each but the first.
use Rattle.std.proofs.Common.{◌≡◌, ◌+◌, ◌*◌, ◌^◌, ◌<◌, ◌≤◌, ℕ, suc, Bool, true, false, cond, List, [], ◌∷◌, drop, filter, if◌then◌else◌, length, arith}
use Rattle.std.proofs.lemmas.List.{length-drop}
use Rattle.std.specs.List.{onto_first, slice_split}
use Rattle.mc_text.specs.Lines.{has_bytes, is_space, words}

-- 1 where the first piece has no bytes
abbrev bare_first : List (List ℕ) → ℕ
bare_first [] = 0
bare_first (piece ∷ others) = if has_bytes piece then 0 else 1

-- one byte more before the pieces of a line
one_more : (space : Bool) (byte n : ℕ) (pieces : List (List ℕ)) → 2 * length (filter has_bytes pieces) + bare_first pieces ≤ n + 1
    → 2 * length (filter has_bytes (cond space ([] ∷ pieces) (onto_first byte pieces))) + bare_first (cond space ([] ∷ pieces) (onto_first byte pieces)) ≤ suc n + 1
one_more true byte n pieces so_far = omega arith
one_more false byte n [] so_far = omega arith
one_more false byte n ([] ∷ others) so_far = omega arith
one_more false byte n ((first ∷ rest) ∷ others) so_far =
    let some : has_bytes (first ∷ rest) ≡ true = grind arith in
    let more : has_bytes (byte ∷ first ∷ rest) ≡ true = grind arith in
    let before : 2 * length (filter has_bytes others) + 2 ≤ n + 1 = let h = rw some at so_far in omega arith in
    rw more (omega arith)

-- a line has at most one word for two bytes, and one
spaced : (line : List ℕ) → 2 * length (words line) + bare_first (slice_split is_space line) ≤ length line + 1
spaced [] = omega arith
spaced (byte ∷ line) = one_more (is_space byte) byte (length line) (slice_split is_space line) (spaced line)

-- so those after its first are fewer than half of the bytes that a line may have
pub few_after_first : (line : List ℕ) → length line < 2 ^ 64 → length (drop 1 (words line)) < 2 ^ 63
few_after_first line short =
    let all = spaced line in
    let left = length-drop 1 (words line) in
    omega arith
