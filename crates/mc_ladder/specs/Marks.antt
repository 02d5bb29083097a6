-- A mark at the line of a box, with a word after it.
use Rattle.std.specs.Prelude.{ℕ, ◌-◌, ◌==◌, if◌then◌else◌, List, ◌++◌, length}
use Rattle.mc_ladder.specs.declared.glyph.Glyph.{Glyph}
use Rattle.mc_ladder.specs.declared.glyph.Glyph.TheVariants.{Blank, Line}
use Rattle.mc_ladder.specs.declared.glyph.Style.{Style}
use Rattle.mc_ladder.specs.declared.lanes.TheConstants.{GAP}
use Rattle.mc_ladder.specs.declared.mark.Mark.{Mark}
use Rattle.mc_ladder.specs.Glyphs.{cells, each_of, glyph_bytes}

-- on the line of a column
abbrev pub mark_glyph : Mark → ℕ → Glyph
mark_glyph mark column = if column == mark.at then mark.glyph else Line

-- in the gap to the right of a column: after the mark a space and the word
abbrev pub mark_gap : Style → Mark → List ℕ → ℕ → List ℕ
mark_gap style mark word column =
    if column == mark.at then glyph_bytes style Blank ++ word ++ cells style Blank (GAP - 1 - length word)
    else cells style Blank GAP

abbrev pub mark_column : Style → Mark → List ℕ → ℕ → List ℕ
mark_column style mark word column = glyph_bytes style (mark_glyph mark column) ++ mark_gap style mark word column

-- a mark over so many columns
abbrev pub mark_lanes : Style → ℕ → Mark → List ℕ → List ℕ
mark_lanes style columns mark word = each_of columns (mark_column style mark word)
