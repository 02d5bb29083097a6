-- The plain words of the command line, and its flag.
use Rattle.std.specs.Prelude.{◌≡◌, ◌≤◌, ◌==◌, ◌&&◌, ◌++◌, ℕ, Bool, false, not, List, [], ◌∷◌, Option, Some, None, codes, filter, length, nat_lt}
use Rattle.std.specs.List.{after_first, before_first, list_any}
use Rattle.std.specs.Str.{bytes_eq}

-- the word after which all words are plain
abbrev pub is_dashes : List ℕ → Bool
is_dashes word = bytes_eq word (codes "--")

-- the flag that asks for the journal
abbrev pub is_journal_flag : List ℕ → Bool
is_journal_flag word = bytes_eq word (codes "--journal")

-- the words in front of a first `--` but for the flag, and all after it
abbrev pub plain_words : List (List ℕ) → List (List ℕ)
plain_words words =
    filter (λ word. not (is_journal_flag word)) (before_first is_dashes words) ++ after_first is_dashes words

-- the flag stands in front of a first `--`
abbrev pub has_journal_flag : List (List ℕ) → Bool
has_journal_flag words = list_any is_journal_flag (before_first is_dashes words)

-- a word that begins with `-`
abbrev pub begins_with_dash : List ℕ → Bool
begins_with_dash [] = false
begins_with_dash (first ∷ others) = first == 45

-- another flag: a word that begins with `-`, and is longer than that
abbrev pub is_other_flag : List ℕ → Bool
is_other_flag word = not (is_journal_flag word) && (begins_with_dash word && nat_lt 1 (length word))

-- no other flag stands in front of a first `--`
abbrev pub HasNoOtherFlag : List (List ℕ) → Type 0
HasNoOtherFlag words = list_any is_other_flag (before_first is_dashes words) ≡ false

-- the plain words that were met, up to the first place that has none
abbrev pub words_met : (first second third : Option (List ℕ)) → List (List ℕ)
words_met None second third = []
words_met (Some first) None third = first ∷ []
words_met (Some first) (Some second) None = first ∷ second ∷ []
words_met (Some first) (Some second) (Some third) = first ∷ second ∷ third ∷ []

-- these words and the flag are a command line's, which has no other flag
abbrev pub AreArguments : List (List ℕ) → (first second third : Option (List ℕ)) → (journal : Bool) → Type 0
AreArguments words first second third journal =
    (words_met first second third ≡ plain_words words) × (journal ≡ has_journal_flag words) × HasNoOtherFlag words

-- at most three plain words, and no other flag
abbrev pub AreFew : List (List ℕ) → Type 0
AreFew words = (length (plain_words words) ≤ 3) × HasNoOtherFlag words
