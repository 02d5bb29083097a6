-- Words that ask for a live run ask for one.
use Rattle.std.proofs.Common.{◌≡◌, ◌∙◌, ℕ, Bool, List, [], ◌∷◌, Option, Some, None, Global, IfNone, String, codes, map, option_map, string_bytes, subst, sym}
use Rattle.mc_livetop.specs.Words.{AskForLive, IsLiveCommand, SpellsLive}
use Rattle.mc_livetop.specs.declared.words.LiveCommand.{LiveCommand}
use Rattle.mc_text.specs.Spelling.{number_of}
use Rattle.mc_words.specs.Arguments.{AreArguments, plain_words, words_met}

-- ---- one run

same_word : (word other : List ℕ) (words : List (List ℕ)) → words ≡ codes "live" ∷ word ∷ [] → words ≡ codes "live" ∷ other ∷ [] → word ≡ other
same_word word other words one two = cc

same_number : (word : List ℕ) (operators other : ℕ) → number_of word ≡ Some operators → number_of word ≡ Some other → operators ≡ other
same_number word operators other one two = cc

one_spelt : (words : List (List ℕ)) (operators other : ℕ) → SpellsLive operators words → SpellsLive other words → operators ≡ other
one_spelt words operators other (word, is, spelt, some) (again, is_too, spelt_too, some_too) =
    same_number word operators other spelt.0 (subst (λ (w : List ℕ). number_of w ≡ Some other) (sym (same_word word again words is is_too)) spelt_too.0)

-- what holds of the run that words ask for holds of each that they do
pub for_each : (P : ℕ → Bool → Type 0) (words : List (String Global)) (operators other : ℕ) (journal flag : Bool) → IsLiveCommand words operators journal → IsLiveCommand words other flag → P operators journal → P other flag
for_each P words operators other journal flag one two holds =
    subst (λ (f : Bool). P other f) (one.flag ∙ sym two.flag)
    (subst (λ (n : ℕ). P n journal) (one_spelt (plain_words (map string_bytes words)) operators other one.spelt two.spelt) holds)

-- where none is asked for
pub none_asked : (words : List (String Global)) → ((operators : ℕ) (journal : Bool) → IsLiveCommand words operators journal → ⊥) → AskForLive words → ⊥
none_asked words none (operators, journal, is) = none operators journal is

-- ---- arguments

-- where the arguments ask for nothing, the words do neither
pub asks_if_none : (words : List (String Global)) (first second third : Option (List ℕ)) (journal : Bool) (operators : Option ℕ) (read : Option LiveCommand) → AreArguments (map string_bytes words) first second third journal
    → read ≡ option_map (λ (n : ℕ). record { operators = n; journal = journal }) operators
    → IfNone operators ((n : ℕ) → SpellsLive n (words_met first second third) → ⊥) → IfNone read ((n : ℕ) (flag : Bool) → IsLiveCommand words n flag → ⊥)
asks_if_none words first second third journal None read are is none =
    subst (λ (r : Option LiveCommand). IfNone r ((n : ℕ) (flag : Bool) → IsLiveCommand words n flag → ⊥)) (sym is)
    (λ n flag asks. none n (subst (SpellsLive n) (sym are.0) asks.spelt))
asks_if_none words first second third journal (Some m) read are is none =
    subst (λ (r : Option LiveCommand). IfNone r ((n : ℕ) (flag : Bool) → IsLiveCommand words n flag → ⊥)) (sym is) tt
