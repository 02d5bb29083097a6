-- The lines of the boxes, alone or under a rule.
use Rattle.std.specs.Prelude.{ℕ, ◌+◌, ◌-◌, ◌==◌, if◌then◌else◌, List, ◌++◌}
use Rattle.mc_ladder.specs.declared.glyph.Glyph.TheVariants.{Blank, Line, Dash, Crossing}
use Rattle.mc_ladder.specs.declared.glyph.Style.{Style}
use Rattle.mc_ladder.specs.declared.lanes.TheConstants.{GAP, MARGIN}
use Rattle.mc_ladder.specs.Glyphs.{cells, each_of, glyph_bytes}

-- the line of a box, and the gap to its right
abbrev pub bare_column : Style → List ℕ
bare_column style = glyph_bytes style Line ++ cells style Blank GAP

-- the lines of so many boxes
abbrev pub bare_lanes : Style → ℕ → List ℕ
bare_lanes style columns = each_of columns (λ column. bare_column style)

-- how many cells of a rule stand to the right of a column; after the last one the words are a cell away
abbrev pub rule_gap : (columns column : ℕ) → ℕ
rule_gap columns column = if column + 1 == columns then GAP - 1 else GAP

abbrev pub rule_column : Style → (columns column : ℕ) → List ℕ
rule_column style columns column = glyph_bytes style Crossing ++ cells style Dash (rule_gap columns column)

-- a rule over so many boxes, from the beginning of the line on
abbrev pub rule_lanes : Style → ℕ → List ℕ
rule_lanes style columns = cells style Dash MARGIN ++ each_of columns (rule_column style columns)
