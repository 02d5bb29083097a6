-- The row of any other turn: a mark on the line of its box, with its words beside it.
use Rattle.std.specs.Prelude.{ℕ, ◌-◌, ◌==◌, ◌&&◌, Bool, nat_lt, if◌then◌else◌, List, [], ◌∷◌, ◌++◌, codes, length, slice_index_or}
use Rattle.std.specs.Fmt.{decimal}
use Rattle.std.specs.List.{concat}
use Rattle.mc_box.specs.declared.event.Event.{Event}
use Rattle.mc_box.specs.declared.event.Event.TheVariants.{Retry, Shift}
use Rattle.mc_box.specs.declared.event.Turn.{Turn}
use Rattle.mc_text.specs.NameLists.{NameLists}
use Rattle.mc_ladder.specs.declared.glyph.Glyph.{Glyph}
use Rattle.mc_ladder.specs.declared.glyph.Glyph.TheVariants.{Down, Up}
use Rattle.mc_ladder.specs.declared.mark.Mark.{Mark}
use Rattle.mc_ladder.specs.Columns.{column_of}
use Rattle.mc_ladder.specs.Rows.{command_rest, command_word, mark_of}
use Rattle.mc_ladder.specs.Words.{spaced}
use Rattle.mc_ladder_svg.specs.declared.measure.TextSide.{TextSide}
use Rattle.mc_ladder_svg.specs.declared.measure.TextSide.TheVariants.{Left, Right}
use Rattle.mc_ladder_svg.specs.declared.row.Row.{Row}
use Rattle.mc_ladder_svg.specs.Elements.{box_class, text_beside}
use Rattle.mc_ladder_svg.specs.Measures.{beside, x_of}
use Rattle.mc_ladder_svg.specs.TurnRows.{row_end, row_place, row_start}

-- the class of its colour: what a program does by itself has one of its own
abbrev pub command_class : Event → List ℕ
command_class Shift = codes "pr"
command_class (Retry local) = codes "pr"
command_class event = codes "cm"

-- its words without the box; a Shift leads to this state
abbrev pub command_words : NameLists → Turn → (state : List ℕ) → List ℕ
command_words names turn state = command_word turn.event ++ command_rest names turn.who turn.event state

-- a mark on a line: a triangle that points down for a Shift, one that points up for a Retry, and else a square
abbrev pub mark_shape : (x : ℕ) → Glyph → List ℕ
mark_shape x Down = concat (codes "<path class=\"f\" d=\"M" ∷ decimal (x - 6) ∷ codes " 12h12l-6 10z\"/>" ∷ [])
mark_shape x Up = concat (codes "<path class=\"f\" d=\"M" ∷ decimal (x - 6) ∷ codes " 22h12l-6-10z\"/>" ∷ [])
mark_shape x glyph = concat (codes "<path class=\"f\" d=\"M" ∷ decimal (x - 5) ∷ codes " 12h10v10h-10z\"/>" ∷ [])

-- a column is the last of so many
abbrev pub is_last : (columns at : ℕ) → Bool
is_last columns at = nat_lt 0 columns && at == columns - 1

-- its words stand at the right of it, and in the last column at the left
abbrev pub words_side : (columns at : ℕ) → TextSide
words_side columns at = if is_last columns at then Left else Right

-- up to the title
abbrev pub command_opening : (at : ℕ) → (class : List ℕ) → Row → List ℕ
command_opening at class row = row_start row.number class ++ box_class at ++ row_place row.y

-- the title has the box, and the turn in words
abbrev pub command_title : (name words : List ℕ) → List ℕ
command_title name words = name ++ spaced words ++ codes "</title>"

abbrev pub mark_words : (at : ℕ) → TextSide → (words : List ℕ) → List ℕ
mark_words at side words = text_beside (codes "o") side (beside side (x_of at) 12) 21 words

-- a mark with its words
abbrev pub command_picture : Mark → TextSide → (words : List ℕ) → List ℕ
command_picture mark side words = mark_shape (x_of mark.at) mark.glyph ++ mark_words mark.at side words

-- a row with a mark, of a class, at a box and with words
abbrev pub command_by : Mark → TextSide → (class name words : List ℕ) → Row → List ℕ
command_by mark side class name words row =
    command_opening mark.at class row ++ command_title name words ++ command_picture mark side words ++ row_end row

abbrev pub command_row : List ℕ → NameLists → Turn → (state : List ℕ) → Row → List ℕ
command_row columns names turn state row =
    command_by (mark_of columns turn) (words_side (length columns) (column_of columns turn.who))
    (command_class turn.event) (slice_index_or names.boxes turn.who [])
    (command_words names turn state) row
