-- The words of a line by their places, and what is asked of them. A word that is missing isn't asked anything, and a
-- slot only where its box is known.
use Rattle.std.specs.Prelude.{ℕ, ◌≡◌, ◌<◌, ◌==◌, ◌&&◌, Bool, false, not, List, Option, Some, None, Result, Ok, Err, length, nat_lt, if◌then◌else◌}
use Rattle.std.specs.Option.{is_none, is_some, option_and_then}
use Rattle.mc_text.specs.NameLists.{NameLists, place_of, slot_names}
use Rattle.mc_text.specs.Spelling.{is_spelt}
use Rattle.mc_text.specs.declared.limit.TheConstants.{NAME_LIMIT}
use Rattle.mc_box.specs.BoxShapes.{BoxShapeState, shape_of}
use Rattle.mc_script.specs.declared.command.LineFault.{LineFault}
use Rattle.mc_script.specs.declared.rule.TheConstants.{UNDECLARED, WRONG_WORD}

-- names and shapes are of the same boxes, with equally many slots each
pub record Fits (names : NameLists) (shape : List BoxShapeState) : Type 0 where
  pub boxes : length shape ≡ length names.boxes
  pub slots : (who : ℕ) → who < length names.boxes → length (shape_of shape who).media ≡ length (slot_names names who)

-- a value, or the rule that is broken
abbrev pub unless : {X : Type 0} → Bool → ℕ → X → Result X LineFault
unless broken number x = if broken then Err (record { number = number }) else Ok x

-- a word stands there, and is no name of the list
abbrev pub lacks : List (List ℕ) → Option (List ℕ) → Bool
lacks names None = false
lacks names (Some word) = is_none (place_of names word)

-- a word stands there, and is a name of the list
abbrev pub has : List (List ℕ) → Option (List ℕ) → Bool
has names None = false
has names (Some word) = is_some (place_of names word)

-- the box that a word names
abbrev pub box_named : NameLists → Option (List ℕ) → Option ℕ
box_named names word = option_and_then (place_of names.boxes) word

-- the slot of a box that a word names
abbrev pub slot_named : NameLists → Option ℕ → Option (List ℕ) → Option ℕ
slot_named names None word = None
slot_named names (Some who) word = option_and_then (place_of (slot_names names who)) word

-- a word stands there, its box is known, and it is no slot of the box
abbrev pub lacks_slot : NameLists → Option ℕ → Option (List ℕ) → Bool
lacks_slot names None word = false
lacks_slot names (Some who) word = lacks (slot_names names who) word

-- a word stands there, and doesn't spell a value
abbrev pub is_no : {X : Type 0} → (List ℕ → Option X) → Option (List ℕ) → Bool
is_no meaning None = false
is_no meaning (Some word) = is_none (meaning word)

-- the value that a word spells
abbrev pub spelt_value : {X : Type 0} → (List ℕ → Option X) → Option (List ℕ) → Option X
spelt_value meaning word = option_and_then meaning word

-- the value that a word in a place spells; rule 5 where it spells none
abbrev pub fixed_word : {X : Type 0} → (List ℕ → Option X) → Option (List ℕ) → Result (Option X) LineFault
fixed_word meaning word = unless (is_no meaning word) WRONG_WORD (spelt_value meaning word)

-- the number of the name that a word in a place is; rule 4 where the list hasn't the name
abbrev pub known_name : List (List ℕ) → Option (List ℕ) → Result (Option ℕ) LineFault
known_name names word = unless (lacks names word) UNDECLARED (spelt_value (place_of names) word)

-- a word stands there, and isn't spelt as a name, whatever its length
abbrev pub is_misspelt : Option (List ℕ) → Bool
is_misspelt None = false
is_misspelt (Some word) = not (is_spelt word)

-- a word stands there, spelt as a name but for its more than 16 bytes
abbrev pub is_overlong : Option (List ℕ) → Bool
is_overlong None = false
is_overlong (Some word) = is_spelt word && nat_lt NAME_LIMIT (length word)

-- both numbers are known, and are the same
abbrev pub are_same : Option ℕ → Option ℕ → Bool
are_same (Some a) (Some b) = a == b
are_same a b = false
