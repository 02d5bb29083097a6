-- Texts of lines of words: their lines and words are read apart again.
use Rattle.std.proofs.Common.{◌≡◌, ℕ, ◌*◌, ◌≤◌, Bool, true, false, ◌||◌, List, [], ◌∷◌, ◌++◌, flat_map, length, length-append, map, nat_lt, None, refl, sym, ap, ap₂, ◌∙◌, subst, append_assoc, arith}
use Rattle.std.proofs.lemmas.Grind.{common_steps}
use Rattle.std.proofs.lemmas.List.Elements.{All-from_recursion}
use Rattle.std.proofs.lemmas.List.Splits.{slice_split_at}
use Rattle.std.specs.List.{All, AllByRecursion, join_with_byte, list_any}
use Rattle.mc_text.specs.Lines.{is_line_end, lines, words}
use Rattle.mc_text.proofs.Cuts.{some_pieces}
use Rattle.mc_script.proofs.Apart.{AreWords, IsLine, is_strange, line_of}
use Rattle.mc_lines.specs.SoFar.{Declared, nothing}
use Rattle.mc_lines.specs.Rules.{end_fault}
use Rattle.mc_lines.specs.declared.limit.TheConstants.{TEXT_LIMIT}
use Rattle.mc_lines.specs.declared.tail.Tail.TheVariants.{Nothing}
use Rattle.mc_net.specs.Texts.{Says}
use Rattle.mc_scene.specs.Lines.{words_line}
use Rattle.mc_scene_laws.proofs.Entering.{Enter, IsPlainLine, says_lines}

-- at most fifteen words
abbrev pub IsWordLine : List (List ℕ) → Type 0
IsWordLine some = AreWords some × (length some ≤ 15)

abbrev pub AreWordLines : List (List (List ℕ)) → Type 0
AreWordLines = AllByRecursion IsWordLine

pub word_lines-append : (one two : List (List (List ℕ))) → AreWordLines one → AreWordLines two → AreWordLines (one ++ two)
word_lines-append [] two first second = second
word_lines-append (some ∷ one) two first second = (first.0, word_lines-append one two first.1 second)

is_line : (some : List (List ℕ)) → IsWordLine some → IsLine some
is_line some good = line_of some good.1 good.0

-- ---- lines

or_parts : (a b : Bool) → (a || b) ≡ false → (a ≡ false) × (b ≡ false)
or_parts true b none = absurd (cc)
or_parts false b none = (refl, none)

-- a plain byte ends no line
no_end : (byte : ℕ) → is_strange byte ≡ false → is_line_end byte ≡ false
no_end byte plain = grind (arith, common_steps)

no_ends : (bytes : List ℕ) → list_any is_strange bytes ≡ false → AllByRecursion (λ byte. is_line_end byte ≡ false) bytes
no_ends [] plain = tt
no_ends (byte ∷ bytes) plain =
    let parts = or_parts (is_strange byte) (list_any is_strange bytes) plain in
    (no_end byte parts.0, no_ends bytes parts.1)

-- a line with its end in front is one line more
line_in_front : (line rest : List ℕ) → list_any is_strange line ≡ false → lines ((line ++ 10 ∷ []) ++ rest) ≡ line ∷ lines rest
line_in_front line rest plain =
    let none : All (λ byte. is_line_end byte ≡ false) line = All-from_recursion (λ byte. is_line_end byte ≡ false) line (no_ends line plain) in
    let parts = some_pieces is_line_end rest in
    let here : lines (line ++ 10 ∷ rest) ≡ line ∷ lines rest = rw (slice_split_at is_line_end line 10 rest none refl, parts.2) refl in
    ap lines (append_assoc line (10 ∷ []) rest) ∙ here

lines_again : (all : List (List (List ℕ))) → AreWordLines all → lines (flat_map words_line all) ≡ map (join_with_byte 32) all
lines_again [] each = refl
lines_again (some ∷ others) each =
    line_in_front (join_with_byte 32 some) (flat_map words_line others) (is_line some each.0).plain
    ∙ ap (λ (l : List (List ℕ)). join_with_byte 32 some ∷ l) (lines_again others each.1)

words_again : (all : List (List (List ℕ))) → AreWordLines all → map words (map (join_with_byte 32) all) ≡ all
words_again [] each = refl
words_again (some ∷ others) each = ap₂ (λ (first : List (List ℕ)) (rest : List (List (List ℕ))). first ∷ rest) (is_line some each.0).apart (words_again others each.1)

plain_again : (all : List (List (List ℕ))) → AreWordLines all → AllByRecursion IsPlainLine (map (join_with_byte 32) all)
plain_again [] each = tt
plain_again (some ∷ others) each =
    let is = is_line some each.0 in
    (rw (is.fits, is.plain) refl, plain_again others each.1)

line_short : (some : List (List ℕ)) → IsWordLine some → length (words_line some) ≤ 257
line_short some good =
    let is : nat_lt 256 (length (join_with_byte 32 some)) ≡ false = (is_line some good).fits in
    let few : length (join_with_byte 32 some) ≤ 256 = grind arith in
    omega (arith, length-append (join_with_byte 32 some) (10 ∷ []))

text_short : (all : List (List (List ℕ))) → AreWordLines all → length (flat_map words_line all) ≤ 257 * length all
text_short [] each = omega arith
text_short (some ∷ others) each = omega (arith, length-append (words_line some) (flat_map words_line others), line_short some each.0, text_short others each.1)

-- a text of few lines of words is in the grammar, if the words are
pub says_words : (all : List (List (List ℕ))) (last : Declared) → AreWordLines all → length all ≤ 4000 → Enter (nothing Nothing) all last → end_fault last ≡ None → Says Nothing (flat_map words_line all) last
says_words all last each few enter ended =
    let short : length (flat_map words_line all) ≤ 257 * length all = text_short all each in
    let within : nat_lt TEXT_LIMIT (length (flat_map words_line all)) ≡ false = not_above (length (flat_map words_line all)) (omega arith) in
    says_lines (map (join_with_byte 32) all) last
    (All-from_recursion IsPlainLine (map (join_with_byte 32) all) (plain_again all each))
    (subst (λ (some : List (List (List ℕ))). Enter (nothing Nothing) some last) (sym (words_again all each)) enter)
    (flat_map words_line all) (lines_again all each) within ended
  where
    not_above : (n : ℕ) → n ≤ TEXT_LIMIT → nat_lt TEXT_LIMIT n ≡ false
    not_above n within = grind arith
