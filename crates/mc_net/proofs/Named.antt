-- What has a name: the codecs of the boxes, and what a word names.
use Rattle.std.proofs.Common.{◌≡◌, ℕ, ◌<◌, false, List, [], ◌∷◌, length, map, Option, Some, None, refl, arith}
use Rattle.std.proofs.lemmas.List.Elements.{All-cons, All-nil}
use Rattle.std.specs.List.{All}
use Rattle.std.specs.Option.{is_none, unwrap_or}
use Rattle.mc_text.specs.NameLists.{NameLists, place_of}
use Rattle.mc_program_lines.proofs.Found.{found_within}
use Rattle.mc_lines.specs.Meaning.{codec_number}
use Rattle.mc_lines.specs.Rules.{lists_undeclared}
use Rattle.mc_lines.specs.SoFar.{DeclaredBox}

-- the codecs that a box receives are declared
abbrev pub HasCodecs : NameLists → DeclaredBox → Type 0
HasCodecs names declared = All (λ codec. codec < length names.codecs) declared.receives

-- ---- codecs

known_number : (place : Option ℕ) (count : ℕ) → is_none place ≡ false → ((n : ℕ) → place ≡ Some n → n < count) → unwrap_or place 0 < count
known_number None count known below = absurd cc
known_number (Some n) count known below = below n refl

-- words that are all codecs' names give numbers of codecs
pub numbers_known : (names : NameLists) (words : List (List ℕ)) → lists_undeclared names words ≡ false → All (λ codec. codec < length names.codecs) (map (codec_number names) words)
numbers_known names [] known = All-nil (λ codec. codec < length names.codecs)
numbers_known names (word ∷ words) known =
    let here : is_none (place_of names.codecs word) ≡ false = grind arith in
    let rest : lists_undeclared names words ≡ false = grind arith in
    All-cons (λ codec. codec < length names.codecs) (codec_number names word) (map (codec_number names) words)
    (known_number (place_of names.codecs word) (length names.codecs) here (λ n found. found_within names.codecs word n found))
    (numbers_known names words rest)
