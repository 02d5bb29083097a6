-- What the words of the command line ask for.
use Rattle.std.specs.Prelude.{◌≡◌, ◌≤◌, ℕ, Bool, false, true, List, [], ◌∷◌, IsTrue, Some, codes, map, string_bytes, String, take}
use Rattle.std.specs.declared.alloc.Global.{Global}
pub use Rattle.mc_words.specs.Arguments.{
  HasNoOtherFlag,
  begins_with_dash,
  has_journal_flag,
  is_dashes,
  is_journal_flag,
  is_other_flag,
  plain_words,
}
use Rattle.mc_text.specs.Spelling.{is_name, number_of}
use Rattle.mc_scene.specs.declared.limit.TheConstants.{NUMBER_LIMIT, SIZE_LIMIT}
use Rattle.mc_scene.specs.declared.scenes.Scene.{Scene}
use Rattle.mc_scene.specs.declared.scenes.Scene.TheVariants.{Pbx, Prepaid}
use Rattle.mc_words.specs.declared.box_name.BoxName.{BoxName}
use Rattle.mc_words.specs.declared.words.Mode.{Mode}
use Rattle.mc_words.specs.declared.words.Mode.TheVariants as mode

-- a word spells a number within a limit
abbrev pub SpellsWithin : (limit : ℕ) → List ℕ → ℕ → Type 0
SpellsWithin limit word number = (number_of word ≡ Some number) × (number ≤ limit)

-- the word for a scene
abbrev pub scene_word : Scene → List ℕ
scene_word Pbx = codes "pbx"
scene_word Prepaid = codes "prepaid"

-- the word for a check, with why paths closed or without it
abbrev pub check_word : (why : Bool) → List ℕ
check_word false = codes "check"
check_word true = codes "why"

-- the bytes of the name of a box
abbrev pub bytes_of : BoxName → List ℕ
bytes_of name = take name.len name.at

-- plain words ask for a mode
abbrev pub Spells : Mode → List (List ℕ) → Type 0
Spells (mode.Run journal) words = words ≡ codes "run" ∷ []
Spells (mode.One state journal) words =
    (word : List ℕ) × (words ≡ codes "one" ∷ word ∷ []) × SpellsWithin NUMBER_LIMIT word state
Spells (mode.Check why) words = words ≡ check_word why ∷ []
Spells (mode.Gen number size) words =
    (word : List ℕ) × (size_word : List ℕ) × (words ≡ codes "gen" ∷ word ∷ size_word ∷ [])
    × SpellsWithin NUMBER_LIMIT word number × SpellsWithin SIZE_LIMIT size_word size × (1 ≤ size)
Spells (mode.Scene scene) words = words ≡ codes "scene" ∷ scene_word scene ∷ []
Spells (mode.Conf name) words = (words ≡ codes "conf" ∷ bytes_of name ∷ []) × IsTrue (is_name (bytes_of name))

-- a mode prints the journal, too
abbrev pub prints_journal : Mode → Bool
prints_journal (mode.Run journal) = journal
prints_journal (mode.One state journal) = journal
prints_journal (mode.Check why) = false
prints_journal (mode.Gen number size) = false
prints_journal (mode.Scene scene) = false
prints_journal (mode.Conf name) = false

-- the name of the box that a mode is about, and no bytes where it is about none
abbrev pub name_for : Mode → List ℕ
name_for (mode.Conf name) = bytes_of name
name_for mode = []

-- plain words, with the flag or without it, ask for a mode
abbrev pub AsksFor : Mode → (journal : Bool) → List (List ℕ) → Type 0
AsksFor mode journal words = Spells mode words × (prints_journal mode ≡ journal)

-- plain words ask for a mode, with the flag where it prints the journal, and no other flag stands among them
abbrev pub Asks : List (List ℕ) → Mode → Type 0
Asks words mode =
    Spells mode (plain_words words) × (prints_journal mode ≡ has_journal_flag words) × HasNoOtherFlag words

-- the words of the command line ask for a mode
abbrev pub IsCommand : List (String Global) → Mode → Type 0
IsCommand words mode = Asks (map string_bytes words) mode

-- no list of words asks for two modes
abbrev pub WordsAskForOneMode : Type 0
WordsAskForOneMode =
    (words : List (String Global)) (mode other : Mode) → IsCommand words mode → IsCommand words other → mode ≡ other

-- ---- scripts of networks that grow

-- plain words ask for a script in which channels join and are cut
abbrev pub SpellsGrow : List (List ℕ) → Type 0
SpellsGrow words = words ≡ codes "grow" ∷ []

-- the words of the command line do, and no flag stands among them
pub record AsksToGrow (words : List (String Global)) : Type 0 where
  pub spelt : SpellsGrow (plain_words (map string_bytes words))
  pub no_journal : has_journal_flag (map string_bytes words) ≡ false
  pub no_other : HasNoOtherFlag (map string_bytes words)

-- such words ask for no mode
abbrev pub GrowingIsNoMode : Type 0
GrowingIsNoMode = (words : List (String Global)) (mode : Mode) → AsksToGrow words → IsCommand words mode → ⊥
