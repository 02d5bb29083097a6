-- The lanes of a path: from its one end to its other, over each box that it goes through.
use Rattle.std.specs.Prelude.{ℕ, ◌==◌, ◌&&◌, ◌||◌, Bool, if◌then◌else◌, nat_lt, List, ◌++◌, map}
use Rattle.std.specs.List.{list_any}
use Rattle.mc_model.specs.Worlds.{WorldState}
use Rattle.mc_view.specs.declared.PathView.{PathView}
use Rattle.mc_ladder_choice.specs.Boxes.{path_boxes}
use Rattle.mc_ladder.specs.declared.glyph.Glyph.{Glyph}
use Rattle.mc_ladder.specs.declared.glyph.Glyph.TheVariants.{Blank, Line, End, Through, Double, DoubleCrossing, Dot}
use Rattle.mc_ladder.specs.declared.glyph.Style.{Style}
use Rattle.mc_ladder.specs.declared.lanes.TheConstants.{GAP}
use Rattle.mc_ladder.specs.declared.path.Ends.{Ends}
use Rattle.mc_ladder.specs.Columns.{column_of}
use Rattle.mc_ladder.specs.Glyphs.{cells, each_of, glyph_bytes}

-- ---- where a path stops

-- the columns of the two ends
abbrev pub ends_of : List ℕ → PathView → Ends
ends_of columns view =
    record { low = column_of columns view.low.who; high = column_of columns view.high.who; flowing = view.flowing }

-- the columns of the boxes on the path from a slot
abbrev pub path_columns : List ℕ → WorldState → ℕ → List ℕ
path_columns columns world low = map (column_of columns) (path_boxes world low)

-- it stops at a column
abbrev pub is_stop : List ℕ → ℕ → Bool
is_stop stops column = list_any (λ stop. stop == column) stops

-- it stops before a column
abbrev pub stops_before : List ℕ → ℕ → Bool
stops_before stops column = list_any (λ stop. nat_lt stop column) stops

-- it stops after a column
abbrev pub stops_after : List ℕ → ℕ → Bool
stops_after stops column = list_any (λ stop. nat_lt column stop) stops

-- it stops before a column and after it
abbrev pub is_between : List ℕ → ℕ → Bool
is_between stops column = stops_before stops column && stops_after stops column

-- it goes over the gap to the right of a column
abbrev pub goes_over : List ℕ → ℕ → Bool
goes_over stops column = (stops_before stops column || is_stop stops column) && stops_after stops column

-- ---- what is drawn

-- between the lines of boxes
abbrev pub path_cell : Ends → Glyph
path_cell ends = if ends.flowing then Double else Dot

-- on the line of a column: its ends, the boxes that link it, and those that it goes over
abbrev pub path_glyph : Ends → List ℕ → ℕ → Glyph
path_glyph ends stops column =
    if column == ends.low || column == ends.high then End
    else if is_stop stops column then Through
    else if ends.flowing && is_between stops column then DoubleCrossing
    else Line

abbrev pub path_gap : Style → Ends → List ℕ → ℕ → List ℕ
path_gap style ends stops column = cells style (if goes_over stops column then path_cell ends else Blank) GAP

abbrev pub path_column : Style → Ends → List ℕ → ℕ → List ℕ
path_column style ends stops column =
    glyph_bytes style (path_glyph ends stops column) ++ path_gap style ends stops column

-- a path over so many columns
abbrev pub path_lanes : Style → ℕ → Ends → List ℕ → List ℕ
path_lanes style columns ends stops = each_of columns (path_column style ends stops)
