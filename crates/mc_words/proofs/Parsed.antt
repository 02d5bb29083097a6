-- A parse by the words' command has the plain words and says whether the flag was met; it fails where they are too many, or have another flag.
use Rattle.std.proofs.Common.{◌≡◌, ◌∙◌, inl, inr, ℕ, ◌≤◌, ◌||◌, Bool, cond, true, false, refl, sym, ap, ap₂, subst, List, [], ◌∷◌, Option, Some, None, codes, fold, length, map, nat_lt, slice_get, option_map, arith, bytes_eq, is_some, true≢false}
use Rattle.std.specs.Prelude.{String, option_and_then, string_bytes}
use Rattle.std.specs.declared.alloc.Global.{Global}
use Rattle.std.proofs.lemmas.Str.{IsUtf8-string_bytes}
use Rattle.clap.specs.Walk.{Row, Text, Walk, count_of, finished, first_of, has_row, is_empty, more_values, reading_by, settled, settled_rows, walked, with_default, with_values}
use Rattle.clap.specs.Simple.{App, HasMatchesOf, built, entered, is_simple, matches_of}
use Rattle.clap.specs.Faults.{check_fault, default_fault, defaults_fault, entered_fault, fault_of, given_default_fault, is_simple_and_free, settle_fault, walk_fault}
use Rattle.clap.specs.Kinds.{HasKind, IsAmong, Kinds, or_else}
use Rattle.clap.specs.Values.{kind_of}
use Rattle.clap.proofs.WalkLemmas.{first_value-rows}
use Rattle.clap.specs.Words.{first_value, found_of, rows_of}
use Rattle.clap.specs.declared.error.Error.{Error}
use Rattle.clap.specs.declared.error.kind.ErrorKind.TheVariants.{OutOfMemory}
use Rattle.clap.specs.declared.parser.matches.ArgMatches.{ArgMatches}
use Rattle.clap.specs.declared.parser.matches.ValueSource.TheVariants.{DefaultValue}
use Rattle.mc_words.specs.Arguments.{AreArguments, AreFew, HasNoOtherFlag, has_journal_flag, plain_words, words_met}
use Rattle.mc_words.specs.Parser.{HasWords, words_command}
use Rattle.mc_words.proofs.Given.{HasRows, flag_rule, is_free, rules, shape, stands, word_row, word_rule}
use Rattle.mc_words.proofs.Rows.{added_row, count_in, other_values, row_at, row_missing}
use Rattle.mc_words.proofs.Walks.{AreTexts, WalkedAll, walks}

-- ---- after the walk

-- a test without consequence
cond_same : {X : Type 0} (b : Bool) (x : X) → cond b x x ≡ x
cond_same true x = refl
cond_same false x = refl

-- the rows with the flag's default
abbrev with_flag : List Row → List Row
with_flag rows = with_default rows flag_rule

-- a plain word has no default
same_default : (id : Text) (position : ℕ) (rows : List Row) → with_default rows (word_rule id position) ≡ rows
same_default id position rows = cond_same (has_row id rows) rows

-- so the flag alone gets one
only_flag : (rows : List Row) → fold with_default rows rules ≡ with_flag rows
only_flag rows = same_default (codes "third") 3 _ ∙ same_default (codes "second") 2 _ ∙ same_default (codes "first") 1 (with_flag rows)

-- it leaves the plain words
default_elsewhere : (other : Text) (rows : List Row) → bytes_eq (codes "journal") other ≡ false → row_at other (with_flag rows) ≡ row_at other rows
default_elsewhere other rows apart = go (has_row (codes "journal") rows)
  where
    go : (b : Bool) → row_at other (cond b rows (with_values (codes "journal") (reading_by flag_rule) DefaultValue (codes "0" ∷ []) rows)) ≡ row_at other rows
    go true = refl
    go false = other_values (codes "journal") other (reading_by flag_rule) DefaultValue (codes "0" ∷ []) rows apart

-- the default counts nothing
default_count : (rows : List Row) → count_of (codes "journal") (with_flag rows) ≡ count_of (codes "journal") rows
default_count rows = go (has_row (codes "journal") rows) refl
  where
    go : (b : Bool) → has_row (codes "journal") rows ≡ b
        → count_of (codes "journal") (cond b rows (with_values (codes "journal") (reading_by flag_rule) DefaultValue (codes "0" ∷ []) rows)) ≡ count_of (codes "journal") rows
    go true e = refl
    go false e =
        let none = row_missing (codes "journal") rows e in
        ap count_in (added_row (codes "journal") (more_values DefaultValue (codes "0" ∷ []))
        (record { id = codes "journal"; values = codes "0" ∷ []; count = None; source = Some DefaultValue; reading = reading_by flag_rule }) rows refl none) ∙ sym (ap count_in none)

-- the value of a plain word's row
only_word : (id : Text) (word : Option Text) → option_and_then (λ (r : Row). slice_get r.values 0) (option_map (word_row id) word) ≡ word
only_word id None = refl
only_word id (Some word) = refl

-- a plain word is found at the end of the walk
word_found : (id : Text) (word : Option Text) (rows : List Row) → bytes_eq (codes "journal") id ≡ false → row_at id rows ≡ option_map (word_row id) word
    → first_of id (fold with_default rows rules) ≡ word
word_found id word rows apart is =
    ap (first_of id) (only_flag rows) ∙ ap (option_and_then (λ (r : Row). slice_get r.values 0)) (default_elsewhere id rows apart ∙ is) ∙ only_word id word

-- at most three words are all met
all_met : (words : List Text) → length words ≤ 3 → words_met (slice_get words 0) (slice_get words 1) (slice_get words 2) ≡ words
all_met [] few = refl
all_met (a ∷ []) few = refl
all_met (a ∷ b ∷ []) few = refl
all_met (a ∷ b ∷ c ∷ []) few = refl
all_met (a ∷ b ∷ c ∷ d ∷ e) few = absurd (omega arith)

-- the rows at the end of the walk
at_end : (plain : List Text) (journal : Bool) (rows : List Row) → length plain ≤ 3 → HasRows plain journal rows → HasWords plain journal (fold with_default rows rules)
at_end plain journal rows few has = record {
  words = ap₂ (λ (a b : Option Text). words_met a b (first_of (codes "third") (fold with_default rows rules)))
      (word_found (codes "first") (slice_get plain 0) rows refl has.first) (word_found (codes "second") (slice_get plain 1) rows refl has.second)
      ∙ ap (words_met (slice_get plain 0) (slice_get plain 1)) (word_found (codes "third") (slice_get plain 2) rows refl has.third)
      ∙ all_met plain few;
  flag = ap (λ (rs : List Row). nat_lt 0 (count_of (codes "journal") rs)) (only_flag rows) ∙ ap (nat_lt 0) (default_count rows) ∙ has.flag;
}

-- what may fail after the walk
abbrev after_walk : Walk → Kinds
after_walk w = or_else (entered_fault (built words_command) w.stopped)
    (or_else (settle_fault rules false w.held) (or_else (defaults_fault (settled rules w.held).rows rules) (check_fault shape (finished rules w.held) (is_some (entered (built words_command) w.stopped)))))

-- a plain word's default doesn't fail
no_default_fault : (b : Bool) (kinds : Kinds) → cond (b || true) [] kinds ≡ []
no_default_fault true kinds = refl
no_default_fault false kinds = refl

-- nor does the flag's
no_flag_fault : (b : Bool) → cond (b || is_empty flag_rule.defaults) [] (given_default_fault flag_rule flag_rule.defaults) ≡ []
no_flag_fault true = refl
no_flag_fault false = refl

-- so none does
defaults_pass : (rows : List Row) → defaults_fault rows rules ≡ []
unfolding defaults_fault
defaults_pass rows =
    let flag = no_flag_fault (has_row (codes "journal") rows) in
    let first = no_default_fault (has_row (codes "first") (with_flag rows)) (given_default_fault (word_rule (codes "first") 1) []) in
    let second = no_default_fault (has_row (codes "second") (with_default (with_flag rows) (word_rule (codes "first") 1))) (given_default_fault (word_rule (codes "second") 2) []) in
    let third = no_default_fault (has_row (codes "third") (with_default (with_default (with_flag rows) (word_rule (codes "first") 1)) (word_rule (codes "second") 2))) (given_default_fault (word_rule (codes "third") 3) []) in
    ap₂ (λ (a b : Kinds). or_else a (or_else b (or_else (default_fault (with_default (with_flag rows) (word_rule (codes "first") 1)) (word_rule (codes "second") 2)) (or_else (default_fault (with_default (with_default (with_flag rows) (word_rule (codes "first") 1)) (word_rule (codes "second") 2)) (word_rule (codes "third") 3)) [])))) flag first
    ∙ ap₂ (λ (a b : Kinds). or_else a (or_else b [])) second third

-- and nothing else
ends : (plain : List Text) (journal : Bool) (w : Walk) → WalkedAll plain journal w → after_walk w ≡ []
ends plain journal w all = ap after_walk all.stands
    ∙ ap₂ (λ (a b : Kinds). or_else a (or_else b [])) all.has.settles (defaults_pass (settled_rows rules all.pending all.rows))

-- ---- the whole parse

-- the walk over all words
abbrev walk_over : List Text → Walk
walk_over words = fold (walked rules []) (stands [] None 1 false) words

-- what a parse fails by
fault_is : (words : List Text) → fault_of words_command words ≡ or_else (walk_fault shape [] (stands [] None 1 false) words) (after_walk (walk_over words))
fault_is words = refl

-- and what it finds
matches_are : (words : List Text) → matches_of words_command words ≡ finished rules (walk_over words).held
matches_are words = refl

-- where nothing fails, the first step doesn't
or_else_none : (a b : Kinds) → or_else a b ≡ [] → a ≡ []
or_else_none [] b e = refl
or_else_none (k ∷ ks) b e = let bad : k ∷ ks ≡ [] = e in cc

-- a parse that succeeds has the words, and no other flag
has_words : (words : List Text) → AreTexts words → fault_of words_command words ≡ []
    → HasWords (plain_words words) (has_journal_flag words) (matches_of words_command words) × HasNoOtherFlag words
has_words words texts passes = elim (walks words texts) [
  | inl took ↦
      let all = took.2 in (
        subst (HasWords (plain_words words) (has_journal_flag words)) (sym (matches_are words ∙ ap (λ (w : Walk). finished rules w.held) all.stands))
            (at_end (plain_words words) (has_journal_flag words) (settled_rows rules all.pending all.rows) all.few all.has.shown),
        took.1,
      )
  | inr fails ↦ absurd (fails.0 (or_else_none _ _ (sym (fault_is words) ∙ passes)))
]

-- and where one fails, they are too many, or have one
not_few : (words : List Text) → AreTexts words → (fault_of words_command words ≡ [] → ⊥) → AreFew words → ⊥
not_few words texts fails (few, no_other) = elim (walks words texts) [
  | inl took ↦ absurd (fails (fault_is words ∙ ap₂ or_else took.0 (ends _ _ _ took.2)))
  | inr refused ↦ elim refused.1 [ inl many ↦ absurd (omega (arith, many, few)) | inr other ↦ true≢false (sym other ∙ no_other) ]
]

-- ---- what the parser answers

-- the words are texts
pub texts_of : (words : List (String Global)) → AreTexts (map string_bytes words)
texts_of [] = tt
texts_of (word ∷ rest) = (IsUtf8-string_bytes word, texts_of rest)

-- matches have the words
pub parsed_some : (app : App) (words : List Text) (m : ArgMatches) → AreTexts words → app ≡ words_command → (is_simple_and_free app ≡ true → fault_of app words ≡ []) → HasMatchesOf app words m
    → HasWords (plain_words words) (has_journal_flag words) (rows_of (found_of m)) × HasNoOtherFlag words
parsed_some app words m texts is passes matches =
    let free : is_simple_and_free app ≡ true = ap is_simple_and_free is ∙ is_free in
    let simple : is_simple app ≡ true = ap is_simple is in
    let taken : fault_of words_command words ≡ [] = sym (ap (λ (a : App). fault_of a words) is) ∙ passes free in
    let rows : rows_of (found_of m) ≡ matches_of words_command words = (matches simple).0 ∙ ap (λ (a : App). matches_of a words) is in
    let has = has_words words texts taken in
    (subst (HasWords (plain_words words) (has_journal_flag words)) (sym rows) has.0, has.1)

-- an error that isn't want of memory: the words are too many, or have another flag
pub parsed_none : (app : App) (words : List Text) (e : Error) → AreTexts words → app ≡ words_command → (is_simple_and_free app ≡ true → HasKind (fault_of app words) e) → (kind_of e ≡ OutOfMemory → ⊥)
    → AreFew words → ⊥
parsed_none app words e texts is kinds not_memory =
    let free : is_simple_and_free app ≡ true = ap is_simple_and_free is ∙ is_free in
    let among : IsAmong (kind_of e) (fault_of app words) = elim (kinds free) [ inl memory ↦ absurd (not_memory memory) | inr k ↦ k ] in
    let here : IsAmong (kind_of e) (fault_of words_command words) = subst (λ (a : App). IsAmong (kind_of e) (fault_of a words)) is among in
    not_few words texts (λ none. subst (IsAmong (kind_of e)) none here)

-- what the getters read
pub arguments_are : (words : List Text) (m : ArgMatches) (first second third : Option Text) (count : ℕ) → HasWords (plain_words words) (has_journal_flag words) (rows_of (found_of m)) × HasNoOtherFlag words
    → first ≡ first_value (found_of m) (codes "first") → second ≡ first_value (found_of m) (codes "second") → third ≡ first_value (found_of m) (codes "third")
    → count ≡ count_of (codes "journal") (rows_of (found_of m)) → AreArguments words first second third (nat_lt 0 count)
arguments_are words m first second third count (has, no_other) one two three counted =
    let found = found_of m in (
      ap₂ (λ (a b : Option Text). words_met a b third) (one ∙ first_value-rows found (codes "first")) (two ∙ first_value-rows found (codes "second"))
          ∙ ap (words_met (first_of (codes "first") (rows_of found)) (first_of (codes "second") (rows_of found))) (three ∙ first_value-rows found (codes "third"))
          ∙ has.words,
      ap (nat_lt 0) counted ∙ has.flag,
      no_other,
    )
