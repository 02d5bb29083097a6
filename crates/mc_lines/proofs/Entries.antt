-- What is declared after a line that is skipped, after the version line, and after any other.
use Rattle.std.proofs.Common.{◌≡◌, ℕ, true, false, List, [], ◌∷◌, drop, Some, refl}
use Rattle.std.specs.List.{slice_get}
use Rattle.mc_lines.specs.Meaning.{entry_after, words_after}
use Rattle.mc_script.specs.Rules.{least_broken}
use Rattle.mc_lines.specs.Rules.{entry_fault, is_skipped, words_rules}
use Rattle.mc_lines.specs.SoFar.{Declared}

pub after_skipped : (d : Declared) (words : List (List ℕ)) → is_skipped words ≡ true → entry_after d words ≡ Some d
after_skipped d words skipped = rw skipped refl

pub after_version : (d : Declared) (words : List (List ℕ)) → is_skipped words ≡ false → d.versioned ≡ false → entry_after d words ≡ words_after false d words
after_version d words kept first = rw (kept, first) refl

pub after_any : (d : Declared) (words : List (List ℕ)) → is_skipped words ≡ false → d.versioned ≡ true → entry_after d words ≡ words_after true d words
after_any d words kept versioned = rw (kept, versioned) refl

-- the rules on it
pub fault_any : (d : Declared) (words : List (List ℕ)) → is_skipped words ≡ false → d.versioned ≡ true → entry_fault d words ≡ least_broken (words_rules true d words)
fault_any d words kept versioned = rw (kept, versioned) refl

-- words that have a first are that one, and the others
pub first_and_others : (words : List (List ℕ)) (first : List ℕ) → slice_get words 0 ≡ Some first → words ≡ first ∷ drop 1 words
first_and_others [] first found = absurd cc
first_and_others (word ∷ others) first found = let same : word ≡ first = cc in rw same refl
