-- What stands after the lanes of a row: where its turn happens.
use Rattle.std.specs.Prelude.{ℕ, zero, suc, ◌+◌, ◌-◌, List, [], ◌∷◌, ◌++◌, length, max, slice_index_or}
use Rattle.mc_ladder.specs.declared.glyph.Glyph.TheVariants.{Blank}
use Rattle.mc_ladder.specs.declared.glyph.Style.{Style}
use Rattle.mc_ladder.specs.declared.glyph.Style.TheVariants.{Utf8, Ascii}
use Rattle.mc_ladder.specs.Glyphs.{cells}
use Rattle.mc_model.specs.Worlds.{WorldState, far, place, slot_count}
use Rattle.mc_text.specs.NameLists.{NameLists, slot_word}

-- a slot by its number, as `box/slot`
abbrev pub place_word : NameLists → WorldState → ℕ → List ℕ
place_word names world s = slot_word names (place world s).0 (place world s).1

-- between the two places of a Take: ` → `
abbrev pub to_word : Style → List ℕ
to_word Utf8 = 32 ∷ 226 ∷ 134 ∷ 146 ∷ 32 ∷ []
to_word Ascii = 32 ∷ 45 ∷ 62 ∷ 32 ∷ []

-- how many cells that takes
abbrev pub to_cells : Style → ℕ
to_cells Utf8 = 3
to_cells Ascii = 4

-- the place of a Take in a field of so many cells: the slot that sent, and the slot that takes
abbrev pub take_place : Style → (from to : List ℕ) → (width : ℕ) → List ℕ
take_place style from to width =
    from ++ to_word style ++ to ++ cells style Blank (width - length from - to_cells style - length to)

-- the place of any other turn: its box
abbrev pub box_place : Style → List ℕ → (width : ℕ) → List ℕ
box_place style name width = name ++ cells style Blank (width - length name)

-- ---- the width of that field

-- the greatest of the numbers that a function gives for the first so many places; 0 where there are none
abbrev pub greatest_of : ℕ → (ℕ → ℕ) → ℕ
greatest_of zero f = 0
greatest_of (suc count) f = max (f count) (greatest_of count f)

-- the length of the longest name of a box
abbrev pub widest_name : NameLists → ℕ
widest_name names = greatest_of (length names.boxes) (λ who. length (slice_index_or names.boxes who []))

-- the cells that the place of a Take takes, by the slot that takes
abbrev pub take_cells : Style → NameLists → WorldState → ℕ → ℕ
take_cells style names world s =
    length (place_word names world (far s)) + to_cells style + length (place_word names world s)

-- the width of the longest place that a turn of this network can have
abbrev pub place_width : Style → NameLists → WorldState → ℕ
place_width style names world = max (widest_name names) (greatest_of (slot_count world) (take_cells style names world))
