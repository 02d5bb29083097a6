-- Words with single spaces between them are read apart again.
use Rattle.std.proofs.Common.{◌≡◌, ℕ, ◌*◌, ◌≤◌, Bool, true, false, ◌&&◌, not, List, [], ◌∷◌, ◌++◌, length, nat_le, nat_lt, refl, ap, ◌∙◌, arith}
use Rattle.std.proofs.lemmas.Grind.{common_steps}
use Rattle.std.specs.List.{join_with_byte, list_all, list_any, AllByRecursion}
use Rattle.std.proofs.lemmas.List.{length-append}
use Rattle.std.proofs.lemmas.List.Elements.{All-from_recursion}
use Rattle.std.proofs.lemmas.List.Splits.{slice_split_at, slice_split_none}
use Rattle.mc_text.specs.Lines.{is_space, has_bytes, words}
use Rattle.mc_text.specs.Spelling.{is_name, is_name_byte, is_letter}
use Rattle.mc_script.specs.Rules.{is_plain}

-- a byte of a word: plain, and no space
abbrev pub is_solid : ℕ → Bool
is_solid byte = nat_lt 32 byte && nat_le byte 126

abbrev pub is_strange : ℕ → Bool
is_strange byte = not (is_plain byte)

-- a word that may stand in a line: it has 1 to 16 bytes, all of them solid
abbrev pub is_word : List ℕ → Bool
is_word word = has_bytes word && list_all is_solid word && nat_le (length word) 16

-- what names are made of is solid
name_byte_is_solid : (byte : ℕ) → is_name_byte byte ≡ true → is_solid byte ≡ true
name_byte_is_solid byte named = grind (arith, common_steps)

letter_is_solid : (byte : ℕ) → is_letter byte ≡ true → is_solid byte ≡ true
letter_is_solid byte letter = grind (arith, common_steps)

name_bytes_are_solid : (bytes : List ℕ) → list_all is_name_byte bytes ≡ true → list_all is_solid bytes ≡ true
name_bytes_are_solid [] all = refl
name_bytes_are_solid (byte ∷ bytes) all =
    let here : is_solid byte ≡ true = name_byte_is_solid byte (grind arith) in
    let others : list_all is_solid bytes ≡ true = name_bytes_are_solid bytes (grind arith) in
    rw (here, others) refl

-- a name is a word
pub name_is_word : (name : List ℕ) → is_name name ≡ true → is_word name ≡ true
name_is_word [] named = absurd cc
name_is_word (first ∷ others) named =
    let some : has_bytes (first ∷ others) ≡ true = grind arith in
    let here : is_solid first ≡ true = letter_is_solid first (grind arith) in
    let rest : list_all is_solid others ≡ true = name_bytes_are_solid others (grind arith) in
    let short : nat_le (length (first ∷ others)) 16 ≡ true = grind arith in
    rw (some, here, rest, short) refl

-- a solid byte is no space, and plain
solid_is_no_space : (byte : ℕ) → is_solid byte ≡ true → is_space byte ≡ false
solid_is_no_space byte solid = grind (arith, common_steps)

solid_is_plain : (byte : ℕ) → is_solid byte ≡ true → is_strange byte ≡ false
solid_is_plain byte solid = grind (arith, common_steps)

-- in a word stands no space
no_spaces : (word : List ℕ) → list_all is_solid word ≡ true → AllByRecursion (λ byte. is_space byte ≡ false) word
no_spaces [] solid = tt
no_spaces (byte ∷ word) solid = (solid_is_no_space byte (grind arith), no_spaces word (grind arith))

-- a word in front brings no strange byte
plain-append : (word rest : List ℕ) → list_all is_solid word ≡ true → list_any is_strange rest ≡ false → list_any is_strange (word ++ rest) ≡ false
plain-append [] rest solid plain = plain
plain-append (byte ∷ word) rest solid plain =
    let here : is_strange byte ≡ false = solid_is_plain byte (grind arith) in
    let others : list_any is_strange (word ++ rest) ≡ false = plain-append word rest (grind arith) plain in
    rw (here, others) refl

-- a word alone is the one word of its line
words-one : (word : List ℕ) → is_word word ≡ true → words word ≡ word ∷ []
words-one word is =
    let some : has_bytes word ≡ true = grind arith in
    let solid : list_all is_solid word ≡ true = grind arith in
    rw (slice_split_none is_space word (All-from_recursion (λ byte. is_space byte ≡ false) word (no_spaces word solid)), some) refl

-- a word and a space in front are one word more
words-more : (word rest : List ℕ) → is_word word ≡ true → words (word ++ (32 ∷ rest)) ≡ word ∷ words rest
words-more word rest is =
    let some : has_bytes word ≡ true = grind arith in
    let solid : list_all is_solid word ≡ true = grind arith in
    rw (slice_split_at is_space word 32 rest (All-from_recursion (λ byte. is_space byte ≡ false) word (no_spaces word solid)) refl, some) refl

abbrev pub AreWords : List (List ℕ) → Type 0
AreWords = AllByRecursion (λ word. is_word word ≡ true)

-- words with spaces between them are the words of their line
apart : (some : List (List ℕ)) → AreWords some → words (join_with_byte 32 some) ≡ some
apart [] are = refl
apart (word ∷ []) are = words-one word are.0
apart (word ∷ next ∷ more) are = words-more word (join_with_byte 32 (next ∷ more)) are.0 ∙ ap (λ (others : List (List ℕ)). word ∷ others) (apart (next ∷ more) are.1)

-- a word is plain
plain-one : (word : List ℕ) → list_all is_solid word ≡ true → list_any is_strange word ≡ false
plain-one [] solid = refl
plain-one (byte ∷ word) solid =
    let here : is_strange byte ≡ false = solid_is_plain byte (grind arith) in
    rw (here, plain-one word (grind arith)) refl

-- their line has only plain bytes
plain : (some : List (List ℕ)) → AreWords some → list_any is_strange (join_with_byte 32 some) ≡ false
plain [] are = refl
plain (word ∷ []) are = plain-one word (let is : is_word word ≡ true = are.0 in grind arith)
plain (word ∷ next ∷ more) are =
    let solid : list_all is_solid word ≡ true = (let is : is_word word ≡ true = are.0 in grind arith) in
    plain-append word (32 ∷ join_with_byte 32 (next ∷ more)) solid (plain (next ∷ more) are.1)

-- their line has at most 17 bytes for each
short : (some : List (List ℕ)) → AreWords some → length (join_with_byte 32 some) ≤ 17 * length some
short [] are = omega arith
short (word ∷ []) are = let is : is_word word ≡ true = are.0 in let few : length word ≤ 16 = grind arith in omega arith
short (word ∷ next ∷ more) are =
    let is : is_word word ≡ true = are.0 in
    let few : length word ≤ 16 = grind arith in
    omega (arith, length-append word (32 ∷ join_with_byte 32 (next ∷ more)), short (next ∷ more) are.1)

-- a line of at most fifteen words
pub record IsLine (some : List (List ℕ)) : Type 0 where
  pub fits : nat_lt 256 (length (join_with_byte 32 some)) ≡ false
  pub plain : list_any is_strange (join_with_byte 32 some) ≡ false
  pub apart : words (join_with_byte 32 some) ≡ some

pub line_of : (some : List (List ℕ)) → length some ≤ 15 → AreWords some → IsLine some
line_of some few are =
    let enough : length (join_with_byte 32 some) ≤ 17 * length some = short some are in
    let within : length (join_with_byte 32 some) ≤ 256 = omega arith in
    record { fits = grind arith; plain = plain some are; apart = apart some are }
