-- The bytes of a journal after a text: where the last line end stands, and how many lines there may be.
use Rattle.std.proofs.Common.{◌≡◌, ◌+◌, ◌-◌, ◌<◌, ◌≤◌, ◌==◌, ◌||◌, ℕ, Bool, true, false, not, List, [], ◌∷◌, drop, if◌then◌else◌, length, nat_lt, take, refl, ap, sym, ◌∙◌, arith}
use Rattle.std.proofs.lemmas.List.{length-append, length-drop, length-map, length-take, length-take-le, take-take, take_all}
use Rattle.std.proofs.lemmas.List.Splits.{length-slice_split}
use Rattle.std.proofs.lemmas.List.Sums.{count_by-le-length, suffix_len-take_no, suffix_len-take_yes}
use Rattle.std.specs.List.{before_first, before_last, flat_map, position_or_len, slice_index_or, slice_split, suffix_len}
use Rattle.mc_box.specs.BoxShapes.{BoxShapeState}
use Rattle.mc_journal.specs.Readings.{has_bad_line, is_bad, journal_lines, line_in, line_reading, readings}
use Rattle.mc_journal.specs.declared.reading.LineReading.{LineReading}
use Rattle.mc_journal.specs.declared.reading.LineReading.TheVariants.{Skipped, Line, Bad}
use Rattle.mc_lines.specs.declared.tail.Tail.TheVariants.{Journal}
use Rattle.mc_net.specs.TextLaws.{first_bytes}
use Rattle.mc_text.specs.Lines.{has_bytes, is_line_end, lines, without_empty_last}
use Rattle.mc_text.specs.NameLists.{NameLists}
use Rattle.mc_call.specs.Behind.{has_bad_tail, is_too_long, journal_bytes, tail_lines}
use Rattle.mc_lines.specs.declared.limit.TheConstants.{JOURNAL_TEXT_LIMIT}

-- ---- the last line end

abbrev is_inside : ℕ → Bool
is_inside byte = not (is_line_end byte)

-- no line end stands at a place or after it
pub record HasNoEndFrom (bytes : List ℕ) (end : ℕ) : Type 0 where
  pub within : end ≤ length bytes
  pub counted : suffix_len is_inside bytes ≡ (length bytes - end) + suffix_len is_inside (take end bytes)

pub none_from_end : (bytes : List ℕ) → HasNoEndFrom bytes (length bytes)
none_from_end bytes = record {
  within = omega arith;
  counted = ap (λ (list : List ℕ). suffix_len is_inside list) (sym (take_whole bytes)) ∙ omega arith;
}
  where
    take_whole : (bytes : List ℕ) → take (length bytes) bytes ≡ bytes
    take_whole [] = refl
    take_whole (byte ∷ bytes) = ap (λ (list : List ℕ). byte ∷ list) (take_whole bytes)

pub none_before : (bytes : List ℕ) (end other : ℕ) → HasNoEndFrom bytes end → 0 < end → (slice_index_or bytes (end - 1) other == 10) ≡ false → HasNoEndFrom bytes (end - 1)
none_before bytes end other none some inside = record {
  within = let w = none.within in omega arith;
  counted =
      let more = suffix_len-take_yes is_inside bytes end other some none.within (ap not inside) in
      omega (arith, none.counted, none.within, more);
}

-- so this is what stands before the last one
pub stands_before : (bytes : List ℕ) (end other : ℕ) → HasNoEndFrom bytes end → 0 < end → (slice_index_or bytes (end - 1) other == 10) ≡ true → before_last is_line_end bytes ≡ take (end - 1) bytes
stands_before bytes end other none some ends =
    let here : suffix_len is_inside (take end bytes) ≡ 0 = suffix_len-take_no is_inside bytes end other some none.within (ap not ends) in
    let place : length bytes - suffix_len is_inside bytes - 1 ≡ end - 1 = omega (arith, none.counted, none.within, here) in
    ap (λ (n : ℕ). take n bytes) place

-- and where there is none, nothing
pub stands_nowhere : (bytes : List ℕ) → HasNoEndFrom bytes 0 → before_last is_line_end bytes ≡ []
stands_nowhere bytes none =
    let place : length bytes - suffix_len is_inside bytes - 1 ≡ 0 = omega (arith, none.counted) in
    ap (λ (n : ℕ). take n bytes) place

-- ---- how many lines there are

length_take_most : (n : ℕ) (bytes : List ℕ) → length (take n bytes) ≤ n
length_take_most n bytes = omega (arith, length-take n bytes)

bytes_within : (long : Bool) (text : List ℕ) (rest : ℕ) → is_too_long text ≡ long
    → length (if long then before_last is_line_end (drop rest (take JOURNAL_TEXT_LIMIT text)) else drop rest text) ≤ JOURNAL_TEXT_LIMIT
bytes_within true text rest is =
    let cut = drop rest (take JOURNAL_TEXT_LIMIT text) in
    let few = length_take_most JOURNAL_TEXT_LIMIT text in
    omega (arith, few, length-drop rest (take JOURNAL_TEXT_LIMIT text), length-take (length cut - suffix_len is_inside cut - 1) cut)
bytes_within false text rest is =
    let short : length text ≤ JOURNAL_TEXT_LIMIT = grind (arith, is) in
    omega (arith, short, length-drop rest text)

-- what stands before the last line end is no longer than all
pub last_within : (bytes : List ℕ) → length (before_last is_line_end bytes) ≤ length bytes
last_within bytes = omega (arith, length-take (length bytes - suffix_len is_inside bytes - 1) bytes)

-- the last piece, where it is empty, is no line
pieces_fewer : (pieces : List (List ℕ)) → length (without_empty_last pieces) ≤ length pieces
pieces_fewer [] = omega arith
pieces_fewer (piece ∷ []) = by (has_bytes piece)
  where
    by : (some : Bool) → length (if some then piece ∷ [] else []) ≤ 1
    by true = omega arith
    by false = omega arith
pieces_fewer (piece ∷ next ∷ more) = let h = pieces_fewer (next ∷ more) in omega (arith, h)

lines_few : (text : List ℕ) → length (lines text) ≤ length text + 1
lines_few text =
    omega (arith, pieces_fewer (slice_split is_line_end text), length-slice_split is_line_end text, count_by-le-length is_line_end text)

one_line : (reading : LineReading) → length (line_in reading) ≤ 1
one_line Skipped = omega arith
one_line (Line line) = omega arith
one_line Bad = omega arith

kept_few : (all : List LineReading) → length (flat_map line_in all) ≤ length all
kept_few [] = omega arith
kept_few (reading ∷ all) = omega (arith, one_line reading, kept_few all, length-append (line_in reading) (flat_map line_in all))

first_few : (all : List LineReading) → length (before_first is_bad all) ≤ length all
first_few all = omega (arith, length-take (position_or_len is_bad all) all)

journal_few : (names : NameLists) (shape : List BoxShapeState) (text : List ℕ) → length (journal_lines names shape text) ≤ length text + 1
journal_few names shape text =
    let all = readings names shape text in
    omega (arith, kept_few (before_first is_bad all), first_few all, length-map (lines text) (line_reading names shape), lines_few text)

-- no more lines than bytes within the limit, and one
pub lines_within : (names : NameLists) (shape : List BoxShapeState) (text : List ℕ) (rest : ℕ) → length (tail_lines names shape text rest) ≤ JOURNAL_TEXT_LIMIT + 1
lines_within names shape text rest =
    omega (arith, journal_few names shape (journal_bytes text rest), bytes_within (is_too_long text) text rest refl)

-- ---- what is told, and what was read of it

-- the bytes of the journal, of a text that is too long or isn't
abbrev cut_by : (long : Bool) → List ℕ → (rest : ℕ) → List ℕ
cut_by long text rest = if long then before_last is_line_end (drop rest (take JOURNAL_TEXT_LIMIT text)) else drop rest text

-- the first bytes are too long where the whole is
pub long_alike : (text : List ℕ) → is_too_long (first_bytes Journal text) ≡ is_too_long text
long_alike text = by (is_too_long text) refl
  where
    by : (long : Bool) → is_too_long text ≡ long → is_too_long (first_bytes Journal text) ≡ long
    by true is =
        let long : JOURNAL_TEXT_LIMIT + 1 ≤ length text = grind (arith, is) in
        ap (λ (n : ℕ). nat_lt JOURNAL_TEXT_LIMIT n) (length-take-le (JOURNAL_TEXT_LIMIT + 1) text long)
    by false is =
        let short : length text ≤ JOURNAL_TEXT_LIMIT + 1 = grind (arith, is) in
        ap is_too_long (take_all (JOURNAL_TEXT_LIMIT + 1) text short) ∙ is

-- and have the same journal
pub bytes_alike : (text : List ℕ) (rest : ℕ) → journal_bytes (first_bytes Journal text) rest ≡ journal_bytes text rest
bytes_alike text rest = ap (λ (long : Bool). cut_by long (first_bytes Journal text) rest) (long_alike text) ∙ by (is_too_long text) refl
  where
    by : (long : Bool) → is_too_long text ≡ long → cut_by long (first_bytes Journal text) rest ≡ cut_by long text rest
    by true is = ap (λ (bytes : List ℕ). before_last is_line_end (drop rest bytes)) (take-take JOURNAL_TEXT_LIMIT (JOURNAL_TEXT_LIMIT + 1) text (omega arith))
    by false is =
        let short : length text ≤ JOURNAL_TEXT_LIMIT + 1 = grind (arith, is) in
        ap (λ (bytes : List ℕ). drop rest bytes) (take_all (JOURNAL_TEXT_LIMIT + 1) text short)

-- so the first bytes have the same lines of a journal, and a bad one where the whole has
pub lines_alike : (names : NameLists) (shape : List BoxShapeState) (text : List ℕ) (rest : ℕ) → tail_lines names shape (first_bytes Journal text) rest ≡ tail_lines names shape text rest
lines_alike names shape text rest = ap (λ (bytes : List ℕ). journal_lines names shape bytes) (bytes_alike text rest)

pub bad_alike : (names : NameLists) (shape : List BoxShapeState) (text : List ℕ) (rest : ℕ) → has_bad_tail names shape (first_bytes Journal text) rest ≡ has_bad_tail names shape text rest
bad_alike names shape text rest =
    ap (λ (bytes : List ℕ). has_bad_line names shape bytes || is_too_long (first_bytes Journal text)) (bytes_alike text rest)
    ∙ ap (λ (long : Bool). has_bad_line names shape (journal_bytes text rest) || long) (long_alike text)

-- a text that isn't too long has all bytes of its journal
pub all_behind : (text : List ℕ) (rest : ℕ) → is_too_long text ≡ false → journal_bytes text rest ≡ drop rest text
all_behind text rest short = ap (λ (long : Bool). cut_by long text rest) short
