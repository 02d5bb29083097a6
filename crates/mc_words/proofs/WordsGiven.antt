-- What the words ask for, by the arguments that they are.
use Rattle.std.proofs.Common.{◌≡◌, ◌∙◌, ℕ, ◌≤◌, Bool, IfNone, IfSome, List, Option, Some, None, ap, arith, length, subst, sym}
use Rattle.mc_words.specs.Arguments.{AreArguments, AreFew, words_met}
use Rattle.mc_words.specs.declared.words.Mode.{Mode}
use Rattle.mc_words.specs.declared.words.Mode.TheVariants as mode
use Rattle.mc_words.specs.Commands.{Asks, AsksFor, Spells, plain_words}

-- a mode that the arguments ask for, the words ask for
pub asks_if_some : (words : List (List ℕ)) (first second third : Option (List ℕ)) (journal : Bool) (read : Option Mode) → AreArguments words first second third journal
    → IfSome read (λ m. AsksFor m journal (words_met first second third)) → IfSome read (Asks words)
asks_if_some words first second third journal None are asks = tt
asks_if_some words first second third journal (Some m) are asks = (subst (Spells m) are.0 asks.0, asks.1 ∙ are.1, are.2)

-- where the arguments ask for none, the words do neither
pub asks_if_none : (words : List (List ℕ)) (first second third : Option (List ℕ)) (journal : Bool) (read : Option Mode) → AreArguments words first second third journal
    → IfNone read ((m : Mode) → AsksFor m journal (words_met first second third) → ⊥) → IfNone read ((m : Mode) → Asks words m → ⊥)
asks_if_none words first second third journal None are none = λ m asks. none m (subst (Spells m) (sym are.0) asks.0, asks.1 ∙ sym are.1)
asks_if_none words first second third journal (Some m) are none = tt

-- a mode has three words at most
few_words : (m : Mode) (words : List (List ℕ)) → Spells m words → length words ≤ 3
few_words (mode.Run journal) words is = let n : length words ≡ 1 = ap length is in omega arith
few_words (mode.One state journal) words (word, is, spelt) = let n : length words ≡ 2 = ap length is in omega arith
few_words (mode.Check why) words is = let n : length words ≡ 1 = ap length is in omega arith
few_words (mode.Gen number size) words (word, size_word, is, spelt, sized, some) = let n : length words ≡ 3 = ap length is in omega arith
few_words (mode.Scene scene) words is = let n : length words ≡ 2 = ap length is in omega arith
few_words (mode.Conf name) words (is, spelt) = let n : length words ≡ 2 = ap length is in omega arith

-- so more words, or others among which there is another flag, ask for none
pub asks_for_few : (words : List (List ℕ)) → (AreFew words → ⊥) → (m : Mode) → Asks words m → ⊥
asks_for_few words not_few m asks = not_few (few_words m (plain_words words) asks.0, asks.2)
