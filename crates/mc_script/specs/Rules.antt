-- The rules on a command's line, by their numbers: where a line of each kind breaks them. The words are those after
-- the first.
use Rattle.std.specs.Prelude.{ℕ, ◌==◌, ◌&&◌, ◌||◌, not, Bool, true, false, List, [], ◌∷◌, Option, Some, None, codes, drop, find, if◌then◌else◌, length, nat_le, nat_lt}
use Rattle.std.specs.List.{list_any, slice_get}
use Rattle.std.specs.Option.{is_none, is_some, option_and_then, option_map}
use Rattle.std.specs.Str.{bytes_eq}
use Rattle.mc_slot.specs.Moves.{is_same_medium}
use Rattle.mc_slot.specs.declared.Goal.{Goal}
use Rattle.mc_slot.specs.declared.Goal.TheVariants.{Open as ToOpen, Close as ToClose, Hold as ToHold}
use Rattle.mc_text.specs.Lines.{words}
use Rattle.mc_text.specs.NameLists.{NameLists}
use Rattle.mc_box.specs.BoxShapes.{BoxShapeState, is_device, is_feature, medium_at, shape_of}
use Rattle.mc_script.specs.Places.{are_same, box_named, is_no, lacks, lacks_slot, slot_named}
use Rattle.mc_script.specs.declared.keyword.CommandWord.{CommandWord}
use Rattle.mc_script.specs.declared.keyword.CommandWord.TheVariants.{Set, Link, Hear, Talk, Tell, Settle}
use Rattle.mc_script.specs.declared.rule.TheConstants.{EXTRA_WORD, LINE_TOO_LONG, MISSING_WORD, NO_SUCH_SLOT, SAME_SLOT, STRANGE_BYTE, TWO_MEDIA, UNDECLARED, WRONG_WORD}
use Rattle.mc_script.specs.declared.line.TheConstants.{LINE_LIMIT}

-- the least number of the rules that a line breaks
abbrev pub least_broken : List (ℕ × Bool) → Option ℕ
least_broken rules = option_map (λ rule. rule.0) (find (λ rule. rule.1) rules)

-- ---- fixed words

abbrev pub spelt_goal : List ℕ → Option Goal
spelt_goal word =
    if bytes_eq word (codes "open") then Some ToOpen
    else (if bytes_eq word (codes "close") then Some ToClose
    else (if bytes_eq word (codes "hold") then Some ToHold
    else None))

-- `on` or `off`
abbrev pub spelt_switch : List ℕ → Option Bool
spelt_switch word =
    if bytes_eq word (codes "on") then Some true else (if bytes_eq word (codes "off") then Some false else None)

-- the word that opens a command
abbrev pub command_word : List ℕ → Option CommandWord
command_word word =
    if bytes_eq word (codes "set") then Some Set
    else (if bytes_eq word (codes "link") then Some Link
    else (if bytes_eq word (codes "hear") then Some Hear
    else (if bytes_eq word (codes "talk") then Some Talk
    else (if bytes_eq word (codes "tell") then Some Tell
    else (if bytes_eq word (codes "settle") then Some Settle
    else None)))))

-- ---- boxes

-- the box is known, and is no device
abbrev pub is_no_device : List BoxShapeState → Option ℕ → Bool
is_no_device shape None = false
is_no_device shape (Some who) = not (is_device (shape_of shape who).kind)

-- the box is known, and is no feature
abbrev pub is_no_feature : List BoxShapeState → Option ℕ → Bool
is_no_feature shape None = false
is_no_feature shape (Some who) = not (is_feature (shape_of shape who).kind)

-- the box is known, and has no program
abbrev pub has_no_program : List BoxShapeState → Option ℕ → Bool
has_no_program shape None = false
has_no_program shape (Some who) = not (shape_of shape who).programmed

-- both slots of a box are known, and are of two media
abbrev pub differ_in_medium : List BoxShapeState → Option ℕ → Option ℕ → Option ℕ → Bool
differ_in_medium shape (Some who) (Some a) (Some b) =
    not (is_same_medium (medium_at shape who a) (medium_at shape who b))
differ_in_medium shape who a b = false

-- ---- the rules of each kind

-- `set BOX SLOT GOAL`
abbrev pub set_rules : NameLists → List (List ℕ) → List (ℕ × Bool)
set_rules names words =
    (UNDECLARED, lacks names.boxes (slice_get words 0))
    ∷ (WRONG_WORD, is_no spelt_goal (slice_get words 2))
    ∷ (MISSING_WORD, is_none (slice_get words 2))
    ∷ (EXTRA_WORD, is_some (slice_get words 3))
    ∷ (NO_SUCH_SLOT, lacks_slot names (box_named names (slice_get words 0)) (slice_get words 1))
    ∷ []

-- `link BOX SLOT SLOT`, on a feature
abbrev pub link_rules : NameLists → List BoxShapeState → List (List ℕ) → List (ℕ × Bool)
link_rules names shape words =
    let who = box_named names (slice_get words 0) in
    let a = slot_named names who (slice_get words 1) in
    let b = slot_named names who (slice_get words 2) in
    (UNDECLARED, lacks names.boxes (slice_get words 0))
    ∷ (WRONG_WORD, is_no_feature shape who)
    ∷ (MISSING_WORD, is_none (slice_get words 2))
    ∷ (EXTRA_WORD, is_some (slice_get words 3))
    ∷ (NO_SUCH_SLOT, lacks_slot names who (slice_get words 1) || lacks_slot names who (slice_get words 2))
    ∷ (SAME_SLOT, are_same a b)
    ∷ (TWO_MEDIA, differ_in_medium shape who a b)
    ∷ []

-- `hear BOX SLOT SWITCH` and `talk BOX SLOT SWITCH`, on a device
abbrev pub media_rules : NameLists → List BoxShapeState → List (List ℕ) → List (ℕ × Bool)
media_rules names shape words =
    let who = box_named names (slice_get words 0) in
    (UNDECLARED, lacks names.boxes (slice_get words 0))
    ∷ (WRONG_WORD, is_no_device shape who || is_no spelt_switch (slice_get words 2))
    ∷ (MISSING_WORD, is_none (slice_get words 2))
    ∷ (EXTRA_WORD, is_some (slice_get words 3))
    ∷ (NO_SUCH_SLOT, lacks_slot names who (slice_get words 1))
    ∷ []

-- `tell BOX WORD`, on a box with a program, and a word that some program uses
abbrev pub tell_rules : NameLists → List BoxShapeState → List (List ℕ) → List (ℕ × Bool)
tell_rules names shape words =
    (UNDECLARED, lacks names.boxes (slice_get words 0) || lacks names.told (slice_get words 1))
    ∷ (WRONG_WORD, has_no_program shape (box_named names (slice_get words 0)))
    ∷ (MISSING_WORD, is_none (slice_get words 1))
    ∷ (EXTRA_WORD, is_some (slice_get words 2))
    ∷ []

-- `settle`
abbrev pub settle_rules : List (List ℕ) → List (ℕ × Bool)
settle_rules words = (EXTRA_WORD, is_some (slice_get words 0)) ∷ []

-- a line that no command's word opens breaks rule 5
abbrev pub kind_rules : NameLists → List BoxShapeState → Option CommandWord → List (List ℕ) → List (ℕ × Bool)
kind_rules names shape (Some Set) words = set_rules names words
kind_rules names shape (Some Link) words = link_rules names shape words
kind_rules names shape (Some Hear) words = media_rules names shape words
kind_rules names shape (Some Talk) words = media_rules names shape words
kind_rules names shape (Some Tell) words = tell_rules names shape words
kind_rules names shape (Some Settle) words = settle_rules words
kind_rules names shape None words = (WRONG_WORD, true) ∷ []

abbrev pub command_rules : NameLists → List BoxShapeState → List (List ℕ) → List (ℕ × Bool)
command_rules names shape words =
    kind_rules names shape (option_and_then command_word (slice_get words 0)) (drop 1 words)

-- ---- any line

-- a word that begins with #
abbrev pub begins_hash : List ℕ → Bool
begins_hash [] = false
begins_hash (first ∷ others) = first == 35

-- 0x20 to 0x7E
abbrev pub is_plain : ℕ → Bool
is_plain byte = nat_le 32 byte && nat_le byte 126

-- the rules on the bytes of a line, whatever it says
abbrev pub byte_rules : List ℕ → List (ℕ × Bool)
byte_rules line =
    (LINE_TOO_LONG, nat_lt LINE_LIMIT (length line))
    ∷ (STRANGE_BYTE, list_any (λ byte. not (is_plain byte)) line)
    ∷ []
