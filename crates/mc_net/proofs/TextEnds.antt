-- Where a text ends, and which lines stand after it.
use Rattle.std.proofs.Common.{◌≡◌, ℕ, zero, suc, ◌+◌, ◌<◌, ◌≤◌, Bool, true, false, not, List, [], ◌∷◌, ◌++◌, length, drop, min, refl, sym, ap, ◌∙◌, arith}
use Rattle.std.proofs.Math.Nat.{min-eq_right}
use Rattle.std.proofs.lemmas.Grind.{common_steps}
use Rattle.std.proofs.lemmas.List.{drop-drop, drop_min, length-take-le}
use Rattle.std.proofs.lemmas.List.Sums.{prefix_len-le-length}
use Rattle.std.specs.List.{after_first, before_first, position_or_len, slice_split}
use Rattle.mc_text.specs.Lines.{has_bytes, is_line_end, lines, without_empty_last}
use Rattle.mc_text.proofs.Cuts.{first_line}
use Rattle.mc_lines.specs.Rules.{ends_commands}
use Rattle.mc_lines.specs.declared.tail.Tail.TheVariants.{Nothing}
use Rattle.mc_net.specs.TextLaws.{LinesBehind, UnendedTexts}
use Rattle.mc_net.specs.Texts.{bytes_before, text_lines, up_to}
use Rattle.mc_net.proofs.FirstBytes.{all_bytes, all_lines, extent, extent_of_pieces}

-- ---- all lines

-- an empty last piece has no byte but the end that isn't there
extent_without_last : (xs : List (List ℕ)) → extent xs ≤ extent (without_empty_last xs) + 1
extent_without_last [] = omega arith
extent_without_last (x ∷ []) = by (has_bytes x) refl
  where
    by : (has : Bool) → has_bytes x ≡ has → extent (x ∷ []) ≤ extent (without_empty_last (x ∷ [])) + 1
    by true e = rw e (omega arith)
    by false e = let none : length x ≤ 0 = grind arith in rw e (omega arith)
extent_without_last (x ∷ y ∷ xs) = let rest = extent_without_last (y ∷ xs) in omega arith

-- lines have all bytes of a text, with an end for each
pub lines_have_all : (text : List ℕ) → length text ≤ extent (lines text)
lines_have_all text =
    let most = extent_without_last (slice_split is_line_end text) in
    let pieces : extent (slice_split is_line_end text) ≡ length text + 1 = extent_of_pieces is_line_end text in
    omega arith

pub unended_texts : UnendedTexts
unended_texts text =
    let same : text_lines Nothing text ≡ lines text = all_lines (lines text) in
    let all : bytes_before (lines text) (length (lines text)) ≡ extent (lines text) = all_bytes (lines text) in
    (same, ap (λ (ls : List (List ℕ)). min (bytes_before ls (length ls)) (length text)) same ∙ ap (λ (n : ℕ). min n (length text)) all ∙ min-eq_right (lines_have_all text))

-- ---- the lines after a text

-- what stands after the first line, and more bytes
behind_first : (p : ℕ → Bool) (bytes : List ℕ) (more : ℕ) → drop (length (before_first p bytes) + 1 + more) bytes ≡ drop more (after_first p bytes)
behind_first p bytes more =
    let within : position_or_len p bytes ≤ length bytes = prefix_len-le-length (λ x. not (p x)) bytes in
    let long : length (before_first p bytes) ≡ position_or_len p bytes = length-take-le (position_or_len p bytes) bytes within in
    ap (λ (n : ℕ). drop (n + 1 + more) bytes) long ∙ sym (drop-drop more (position_or_len p bytes + 1) bytes)

shorter_behind : (p : ℕ → Bool) (bytes : List ℕ) (most : ℕ) → 0 < length bytes → length bytes ≤ suc most → length (after_first p bytes) ≤ most
shorter_behind p bytes most some few = grind (arith, common_steps)

-- the lines after those that a test leaves
left_behind : (test : List ℕ → Bool) (most : ℕ) (text : List ℕ) → length text ≤ most → lines text ≡ up_to test (lines text) ++ lines (drop (extent (up_to test (lines text))) text)
left_behind test most [] few = refl
left_behind test zero (byte ∷ bytes) few = absurd (omega arith)
left_behind test (suc most) (byte ∷ bytes) few =
    by (test (before_first is_line_end (byte ∷ bytes))) refl (left_behind test most (after_first is_line_end (byte ∷ bytes)) (shorter_behind is_line_end (byte ∷ bytes) most (omega arith) few))
  where
    parts : lines (byte ∷ bytes) ≡ before_first is_line_end (byte ∷ bytes) ∷ lines (after_first is_line_end (byte ∷ bytes))
    parts = first_line is_line_end (byte ∷ bytes) (omega arith)

    by : (ends : Bool) → test (before_first is_line_end (byte ∷ bytes)) ≡ ends
        → lines (after_first is_line_end (byte ∷ bytes)) ≡ up_to test (lines (after_first is_line_end (byte ∷ bytes))) ++ lines (drop (extent (up_to test (lines (after_first is_line_end (byte ∷ bytes))))) (after_first is_line_end (byte ∷ bytes)))
        → lines (byte ∷ bytes) ≡ up_to test (lines (byte ∷ bytes)) ++ lines (drop (extent (up_to test (lines (byte ∷ bytes)))) (byte ∷ bytes))
    by true e inner = rw (parts, e, behind_first is_line_end (byte ∷ bytes) 0) refl
    by false e inner =
        rw (parts, e, behind_first is_line_end (byte ∷ bytes) (extent (up_to test (lines (after_first is_line_end (byte ∷ bytes))))))
        (ap (λ (l : List (List ℕ)). before_first is_line_end (byte ∷ bytes) ∷ l) inner)

pub lines_behind : LinesBehind
lines_behind tail text =
    let all : bytes_before (text_lines tail text) (length (text_lines tail text)) ≡ extent (text_lines tail text) = all_bytes (text_lines tail text) in
    left_behind (ends_commands tail) (length text) text (omega arith)
    ∙ ap (λ (bytes : List ℕ). text_lines tail text ++ lines bytes)
    (sym (ap (λ (n : ℕ). drop (min n (length text)) text) all ∙ drop_min (extent (text_lines tail text)) text))
