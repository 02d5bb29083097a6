-- An arrow between the lines of two boxes: what stands on the line of each column, and in the gap to its right.
use Rattle.std.specs.Prelude.{ℕ, ◌+◌, ◌-◌, ◌/◌, ◌==◌, ◌&&◌, ◌||◌, Bool, if◌then◌else◌, not, nat_lt, nat_le, List, [], ◌++◌, length}
use Rattle.mc_ladder.specs.declared.arrow.Arrow.{Arrow}
use Rattle.mc_ladder.specs.declared.glyph.Glyph.{Glyph}
use Rattle.mc_ladder.specs.declared.glyph.Glyph.TheVariants.{Blank, Line, Dash, BeginsRight, BeginsLeft, Crossing, HeadRight, HeadLeft, Cross}
use Rattle.mc_ladder.specs.declared.glyph.Style.{Style}
use Rattle.mc_ladder.specs.declared.lanes.TheConstants.{GAP}
use Rattle.mc_ladder.specs.Glyphs.{cells, each_of, glyph_bytes}

-- it goes to the right
abbrev pub is_right : Arrow → Bool
is_right arrow = nat_lt arrow.from arrow.to

-- a column stands between its beginning and its end
abbrev pub crosses : Arrow → ℕ → Bool
crosses arrow column =
    (nat_lt arrow.from column && nat_lt column arrow.to) || (nat_lt arrow.to column && nat_lt column arrow.from)

-- so does the gap to the right of a column
abbrev pub covers : Arrow → ℕ → Bool
covers arrow column =
    (nat_le arrow.from column && nat_lt column arrow.to) || (nat_le arrow.to column && nat_lt column arrow.from)

-- that gap is the one beside its beginning
abbrev pub begins_beside : Arrow → ℕ → Bool
begins_beside arrow column = if is_right arrow then column == arrow.from else column + 1 == arrow.from

-- that gap is the one beside its end
abbrev pub ends_beside : Arrow → ℕ → Bool
ends_beside arrow column = if is_right arrow then column + 1 == arrow.to else column == arrow.to

-- on the line of a column: where it begins, where it goes over the line, or the line alone
abbrev pub arrow_glyph : Arrow → ℕ → Glyph
arrow_glyph arrow column =
    if column == arrow.from then (if is_right arrow then BeginsRight else BeginsLeft)
    else if crosses arrow column then Crossing
    else Line

-- in a gap, at the side to which it goes: a head at its end, or a cross where the signal is dropped
abbrev pub tip : Arrow → ℕ → Glyph
tip arrow column =
    if not (ends_beside arrow column) then Dash
    else if arrow.dropped then Cross
    else if is_right arrow then HeadRight
    else HeadLeft

-- the cells of a gap but for the tip: a word between dashes, so many of them before it
abbrev pub word_in_dashes : Style → ℕ → List ℕ → List ℕ
word_in_dashes style before word = cells style Dash before ++ word ++ cells style Dash (GAP - 1 - before - length word)

-- a gap that it goes over, with a word in the middle of it, or half a cell nearer to where the arrow begins
abbrev pub leg : Style → Arrow → List ℕ → ℕ → List ℕ
leg style arrow word column =
    if is_right arrow then word_in_dashes style ((GAP - length word) / 2) word ++ glyph_bytes style (tip arrow column)
    else glyph_bytes style (tip arrow column) ++ word_in_dashes style ((GAP - 1 - length word) / 2) word

-- the gap to the right of a column: the word stands beside the beginning alone
abbrev pub arrow_gap : Style → Arrow → List ℕ → ℕ → List ℕ
arrow_gap style arrow word column =
    if not (covers arrow column) then cells style Blank GAP
    else leg style arrow (if begins_beside arrow column then word else []) column

abbrev pub arrow_column : Style → Arrow → List ℕ → ℕ → List ℕ
arrow_column style arrow word column = glyph_bytes style (arrow_glyph arrow column) ++ arrow_gap style arrow word column

-- an arrow over so many columns
abbrev pub arrow_lanes : Style → ℕ → Arrow → List ℕ → List ℕ
arrow_lanes style columns arrow word = each_of columns (arrow_column style arrow word)
