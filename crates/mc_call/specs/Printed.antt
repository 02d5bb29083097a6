-- What is printed for a faulty text or journal, and for a name that no box has.
use Rattle.std.specs.Prelude.{ℕ, List, [], ◌∷◌, codes, if◌then◌else◌, length}
use Rattle.std.specs.Fmt.{decimal}
use Rattle.std.specs.List.{flat_map, range_with_len}
use Rattle.mc_box.specs.BoxShapes.{is_feature}
use Rattle.mc_model.specs.Worlds.{WorldState, box_at}
use Rattle.mc_settle_text.specs.Words.{box_word}
use Rattle.mc_table.specs.Words.{line_of}
use Rattle.mc_text.specs.NameLists.{NameLists}

-- ---- a faulty text

-- the first line that breaks a rule, and the least number of the rules that it breaks
abbrev pub fault_line : ℕ → ℕ → List ℕ
fault_line number line = line_of (codes "fault" ∷ decimal number ∷ codes "line" ∷ decimal line ∷ [])

-- ---- no such box

-- the name that no feature has
abbrev pub no_box_line : List ℕ → List ℕ
no_box_line name = line_of (codes "nobox" ∷ name ∷ [])

-- a feature by its name, after a space, and no other box
abbrev pub feature_word : NameLists → WorldState → ℕ → List ℕ
feature_word names world who = if is_feature (box_at world who).kind then 32 ∷ box_word names who else []

-- all features
abbrev pub feature_words : NameLists → WorldState → List ℕ
feature_words names world = flat_map (feature_word names world) (range_with_len 0 (length names.boxes))

-- ---- a faulty journal

-- the rule that is broken first, and one more than the turns before the line that breaks it
abbrev pub journal_fault_line : ℕ → ℕ → List ℕ
journal_fault_line number turn = line_of (codes "fault" ∷ decimal number ∷ codes "turn" ∷ decimal turn ∷ [])
