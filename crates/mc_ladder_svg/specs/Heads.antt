-- The heads of the columns: the name of each box over its line, with square corners for a device, and round ones for a
-- feature.
use Rattle.std.specs.Prelude.{ℕ, ◌-◌, Bool, true, false, List, [], ◌∷◌, ◌++◌, codes, length, slice_index_or}
use Rattle.std.specs.Fmt.{decimal}
use Rattle.std.specs.List.{concat}
use Rattle.mc_box.specs.BoxShapes.{is_device}
use Rattle.mc_ladder.specs.Glyphs.{each_of}
use Rattle.mc_model.specs.Worlds.{WorldState, box_at}
use Rattle.mc_text.specs.NameLists.{NameLists}
use Rattle.mc_ladder_svg.specs.Elements.{text_at}
use Rattle.mc_ladder_svg.specs.Measures.{x_of}

abbrev pub is_device_at : WorldState → (who : ℕ) → Bool
is_device_at world who = is_device (box_at world who).kind

-- the radius of a head's corners
abbrev pub corner : (device : Bool) → ℕ
corner true = 3
corner false = 13

-- the frame of a head, from its left edge on
abbrev pub frame_at : (column left corner : ℕ) → List ℕ
frame_at column left corner = concat (
    codes "<g class=\"hd b" ∷ decimal column ∷ codes "\" data-c=\"" ∷ decimal column ∷ codes "\"><rect class=\"x\" x=\""
    ∷ decimal left
    ∷ codes "\" y=\"8\" width=\"128\" height=\"26\" rx=\"" ∷ decimal corner ∷ codes "\"/>" ∷ [])

-- in the middle of its column
abbrev pub frame : (column corner : ℕ) → List ℕ
frame column corner = frame_at column (x_of column - 64) corner

-- the name of a box, over the line of its column
abbrev pub name_at : NameLists → (column who : ℕ) → List ℕ
name_at names column who = text_at (codes "m h") (x_of column) 25 (slice_index_or names.boxes who [])

-- the head of a box, with corners of a radius
abbrev pub head_of : NameLists → (column who corner : ℕ) → List ℕ
head_of names column who corner = frame column corner ++ name_at names column who ++ codes "</g>\n"

-- the box of a column
abbrev pub box_of : List ℕ → (column : ℕ) → ℕ
box_of columns column = slice_index_or columns column 0

abbrev pub head : NameLists → WorldState → List ℕ → (column : ℕ) → List ℕ
head names world columns column =
    head_of names column (box_of columns column) (corner (is_device_at world (box_of columns column)))

-- the heads of all columns
abbrev pub heads : NameLists → WorldState → List ℕ → List ℕ
heads names world columns = each_of (length columns) (head names world columns)
