-- The heads of the columns: the names of the boxes, each over the line of its box, in one line or in two.
use Rattle.std.specs.Prelude.{ℕ, ◌+◌, ◌-◌, ◌/◌, ◌%◌, ◌==◌, ◌&&◌, Bool, true, false, if◌then◌else◌, List, [], ◌∷◌, ◌++◌, length, slice_index_or}
use Rattle.mc_text.specs.NameLists.{NameLists}
use Rattle.mc_ladder.specs.declared.glyph.Glyph.TheVariants.{Blank, Line}
use Rattle.mc_ladder.specs.declared.glyph.Style.{Style}
use Rattle.mc_ladder.specs.declared.heads.HeadLine.{HeadLine}
use Rattle.mc_ladder.specs.declared.heads.HeadLine.TheVariants.{Only, First, Second}
use Rattle.mc_ladder.specs.declared.lanes.TheConstants.{GAP, MARGIN}
use Rattle.mc_ladder.specs.Frames.{FrameState}
use Rattle.mc_ladder.specs.Glyphs.{cells, each_of, glyph_bytes}

-- the name of a column stands in a line: of two lines, those of columns 0, 2, 4 and so on in the first, and the others
-- in the second
abbrev pub is_named : HeadLine → ℕ → Bool
is_named Only column = true
is_named First column = column % 2 == 0
is_named Second column = column % 2 == 1

-- in the second line, the lines of the first one's boxes go on
abbrev pub goes_on : HeadLine → Bool
goes_on Second = true
goes_on line = false

-- it is the first of two
abbrev pub is_first : HeadLine → Bool
is_first First = true
is_first line = false

-- how many cells of a head stand before the cell of its column, by the bytes of its name
abbrev pub head_before : HeadLine → ℕ → ℕ → ℕ
head_before line name column = if is_named line column then name / 2 else 0

-- how many stand at that cell and after it
abbrev pub head_after : HeadLine → ℕ → ℕ → ℕ
head_after line name column = if is_named line column then name - name / 2 else if goes_on line then 1 else 0

-- the name of the box of a column
abbrev pub name_at : NameLists → List ℕ → ℕ → List ℕ
name_at names columns column = slice_index_or names.boxes (slice_index_or columns column 0) []

-- how many blanks stand before a head: up to its place from the margin's beginning, or from the end of the head before
-- it
abbrev pub head_lead : HeadLine → NameLists → List ℕ → ℕ → ℕ
head_lead line names columns column =
    if column == 0 then MARGIN - head_before line (length (name_at names columns column)) column
    else GAP + 1 - head_after line (length (name_at names columns (column - 1))) (column - 1)
    - head_before line (length (name_at names columns column)) column

abbrev pub head_text : Style → HeadLine → List ℕ → ℕ → List ℕ
head_text style line name column =
    if is_named line column then name else if goes_on line then glyph_bytes style Line else []

abbrev pub head : Style → HeadLine → NameLists → List ℕ → ℕ → List ℕ
head style line names columns column =
    cells style Blank (head_lead line names columns column)
    ++ head_text style line (name_at names columns column) column

-- for how many columns a line has heads: the first of two ends with its last name
abbrev pub head_count : HeadLine → ℕ → ℕ
head_count line columns = if is_first line && columns % 2 == 0 then columns - 1 else columns

abbrev pub head_line : Style → HeadLine → NameLists → List ℕ → List ℕ
head_line style line names columns =
    each_of (head_count line (length columns)) (head style line names columns) ++ 10 ∷ []

-- the heads of all columns
abbrev pub heads : FrameState → NameLists → List ℕ
heads frame names =
    if frame.long
    then head_line frame.style First names frame.columns ++ head_line frame.style Second names frame.columns
    else head_line frame.style Only names frame.columns
