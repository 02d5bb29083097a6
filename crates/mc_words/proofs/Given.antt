-- What a parse of the words' command holds between two words.
use Rattle.std.proofs.Common.{◌≡◌, ◌∙◌, ℕ, ◌+◌, ◌<◌, ◌≤◌, ◌&&◌, Bool, cond, true, false, pos, refl, ap, List, [], ◌∷◌, Option, Some, None, codes, min, nat_lt, slice_get, option_map, arith, lt-ltb, bytes_eq, true≢false}
use Rattle.clap.specs.Walk.{Held, Row, Rule, Text, Walk, count_of, counted, idle, more_values, reading_by, settled_rows, with_values, without}
use Rattle.clap.specs.Simple.{Shape, built, filled, new_rule, with_index}
use Rattle.clap.specs.Faults.{is_simple_and_free, settle_fault}
use Rattle.clap.specs.Kinds.{Kinds, or_else, value_kinds}
use Rattle.clap.specs.Matches.{count_text}
use Rattle.clap.specs.declared.builder.value_parser.Reading.TheVariants.{AsWritten}
use Rattle.clap.specs.declared.error.kind.ErrorKind.TheVariants.{ArgumentConflict}
use Rattle.clap.specs.declared.parser.matches.ValueSource.TheVariants.{CommandLine}
use Rattle.clap.specs.declared.builder.value_parser.ValueParser.TheVariants as vp
use Rattle.clap.proofs.CountText.{IsSignedIn-count_text}
use Rattle.clap.proofs.KindLemmas.{value_kinds-ok}
use Rattle.mc_words.specs.Parser.{journal_rule, words_command}
use Rattle.mc_words.proofs.Rows.{added_row, count_in, count_set, no_row, other_count, other_values, other_without, row_at, same_without}

-- the command as it is built, and its arguments
abbrev pub shape : Shape
shape = (built words_command).top

abbrev pub rules : List Rule
rules = shape.rules

-- the arguments for the flag and for a plain word
abbrev pub flag_rule : Rule
flag_rule = filled journal_rule

abbrev pub word_rule : Text → ℕ → Rule
word_rule id position = with_index position (filled (new_rule id))

-- its matches and its faults are known exactly
pub is_free : is_simple_and_free words_command ≡ true
is_free = refl

-- the row of a plain word
abbrev pub word_row : Text → Text → Row
word_row id word = record { id = id; values = word ∷ []; count = None; source = Some CommandLine; reading = AsWritten }

-- the rows have these plain words, and say whether the flag was met
pub record HasRows (plain : List Text) (journal : Bool) (rows : List Row) : Type 0 where
  pub first : row_at (codes "first") rows ≡ option_map (word_row (codes "first")) (slice_get plain 0)
  pub second : row_at (codes "second") rows ≡ option_map (word_row (codes "second")) (slice_get plain 1)
  pub third : row_at (codes "third") rows ≡ option_map (word_row (codes "third")) (slice_get plain 2)
  pub flag : nat_lt 0 (count_of (codes "journal") rows) ≡ journal

-- what is held where no word waits for values
abbrev pub held : List Row → Option (Text × List Text) → Held
held rows pending = record { rows = rows; pending = pending; skip = 0 }

-- the walk there, in front of `--` or after it
abbrev pub stands : List Row → Option (Text × List Text) → (position : ℕ) → (is_trailing : Bool) → Walk
stands rows pending position is_trailing = record { held = held rows pending; waiting = idle; position = position; is_trailing = is_trailing; stopped = None }

-- the rows have the words once the last one is put among them, which succeeds
pub record HasPlain (plain : List Text) (journal : Bool) (rows : List Row) (pending : Option (Text × List Text)) : Type 0 where
  pub settles : settle_fault rules false (held rows pending) ≡ []
  pub shown : HasRows plain journal (settled_rows rules pending rows)

-- where no word was met yet
pub no_words : HasPlain [] false [] None
no_words = record { settles = refl; shown = record { first = refl; second = refl; third = refl; flag = refl } }

-- ---- a plain word

-- a word is added for an id that has none
word_added : (id : Text) (word : Text) (rows : List Row) → bytes_eq id id ≡ true → row_at id rows ≡ None
    → row_at id (with_values id AsWritten CommandLine (word ∷ []) (without id rows)) ≡ Some (word_row id word)
word_added id word rows own none =
    ap (λ (rs : List Row). row_at id (with_values id AsWritten CommandLine (word ∷ []) rs)) (same_without id rows none)
    ∙ added_row id (more_values CommandLine (word ∷ [])) (word_row id word) rows own none

-- and the row of another id stays
word_elsewhere : (id other word : Text) (rows : List Row) → bytes_eq id other ≡ false
    → row_at other (with_values id AsWritten CommandLine (word ∷ []) (without id rows)) ≡ row_at other rows
word_elsewhere id other word rows apart = other_values id other AsWritten CommandLine (word ∷ []) (without id rows) apart ∙ other_without id other rows apart

-- and so does the count
count_elsewhere : (id word : Text) (rows : List Row) (journal : Bool) → bytes_eq id (codes "journal") ≡ false → nat_lt 0 (count_of (codes "journal") rows) ≡ journal
    → nat_lt 0 (count_of (codes "journal") (with_values id AsWritten CommandLine (word ∷ []) (without id rows))) ≡ journal
count_elsewhere id word rows journal apart is = ap (λ o. nat_lt 0 (count_in o)) (word_elsewhere id (codes "journal") word rows apart) ∙ is

-- a word for an id that has none repeats nothing
never_again : (b : Bool) → b ≡ false → cond (b && true) (ArgumentConflict ∷ []) [] ≡ []
never_again true e = absurd (true≢false e)
never_again false e = refl

-- the first word, the second and the third
pub first_word : (word : Text) (journal : Bool) (rows : List Row) → HasRows [] journal rows → HasPlain (word ∷ []) journal rows (Some (codes "first", word ∷ []))
first_word word journal rows has = record {
  settles = ap (λ (k : Kinds). or_else k []) (never_again _ (no_row (codes "first") rows has.first));
  shown = record {
    first = word_added (codes "first") word rows refl has.first;
    second = word_elsewhere (codes "first") (codes "second") word rows refl ∙ has.second;
    third = word_elsewhere (codes "first") (codes "third") word rows refl ∙ has.third;
    flag = count_elsewhere (codes "first") word rows journal refl has.flag;
  };
}

pub second_word : (word first : Text) (journal : Bool) (rows : List Row) → HasRows (first ∷ []) journal rows → HasPlain (first ∷ word ∷ []) journal rows (Some (codes "second", word ∷ []))
second_word word first journal rows has = record {
  settles = ap (λ (k : Kinds). or_else k []) (never_again _ (no_row (codes "second") rows has.second));
  shown = record {
    first = word_elsewhere (codes "second") (codes "first") word rows refl ∙ has.first;
    second = word_added (codes "second") word rows refl has.second;
    third = word_elsewhere (codes "second") (codes "third") word rows refl ∙ has.third;
    flag = count_elsewhere (codes "second") word rows journal refl has.flag;
  };
}

pub third_word : (word first second : Text) (journal : Bool) (rows : List Row) → HasRows (first ∷ second ∷ []) journal rows
    → HasPlain (first ∷ second ∷ word ∷ []) journal rows (Some (codes "third", word ∷ []))
third_word word first second journal rows has = record {
  settles = ap (λ (k : Kinds). or_else k []) (never_again _ (no_row (codes "third") rows has.third));
  shown = record {
    first = word_elsewhere (codes "third") (codes "first") word rows refl ∙ has.first;
    second = word_elsewhere (codes "third") (codes "second") word rows refl ∙ has.second;
    third = word_added (codes "third") word rows refl has.third;
    flag = count_elsewhere (codes "third") word rows journal refl has.flag;
  };
}

-- ---- the flag

-- the rows after one more flag
abbrev pub flagged : List Row → List Row
flagged rows = counted (codes "journal") (reading_by flag_rule) [] rows

-- the flag leaves the plain words
flag_elsewhere : (other : Text) (rows : List Row) → bytes_eq (codes "journal") other ≡ false → row_at other (flagged rows) ≡ row_at other rows
flag_elsewhere other rows apart =
    other_count (codes "journal") other (reading_by flag_rule) CommandLine (min (count_of (codes "journal") rows + 1) 255) (without (codes "journal") rows) apart ∙ other_without (codes "journal") other rows apart

-- after a flag, the flag was met
pub flag_counted : (plain : List Text) (journal : Bool) (rows : List Row) → HasRows plain journal rows → HasPlain plain true (flagged rows) None
flag_counted plain journal rows has = record {
  settles = refl;
  shown = record {
    first = flag_elsewhere (codes "first") rows refl ∙ has.first;
    second = flag_elsewhere (codes "second") rows refl ∙ has.second;
    third = flag_elsewhere (codes "third") rows refl ∙ has.third;
    flag =
        let more : 0 < min (count_of (codes "journal") rows + 1) 255 = omega arith in
        ap (nat_lt 0) (count_set (codes "journal") (reading_by flag_rule) CommandLine (min (count_of (codes "journal") rows + 1) 255) (without (codes "journal") rows) refl) ∙ lt-ltb _ _ more;
  };
}

-- a count is accepted
pub count_accepted : (n : ℕ) → n ≤ 255 → value_kinds false (vp.Signed (pos 0) (pos 255)) (count_text n) ≡ []
count_accepted n le = value_kinds-ok false (vp.Signed (pos 0) (pos 255)) (count_text n) (IsSignedIn-count_text n le)
