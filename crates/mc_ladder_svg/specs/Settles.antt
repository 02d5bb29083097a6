-- A settle: each path, between two rules.
use Rattle.std.specs.Prelude.{ℕ, ◌+◌, ◌-◌, List, [], ◌∷◌, ◌++◌, codes, length, Option}
use Rattle.std.specs.Fmt.{decimal}
use Rattle.std.specs.List.{concat}
use Rattle.mc_model.specs.Worlds.{WorldState}
use Rattle.mc_text.specs.NameLists.{NameLists}
use Rattle.mc_view.specs.declared.PathView.{PathView}
use Rattle.mc_ladder_svg.specs.declared.row.Row.{Row}
use Rattle.mc_ladder_svg.specs.Elements.{uprights}
use Rattle.mc_ladder_svg.specs.Measures.{settle_height, width_of}
use Rattle.mc_ladder_svg.specs.PathRows.{path_row}
use Rattle.mc_ladder_svg.specs.Sheets.{line}

-- its beginning, with its number
abbrev pub block_tag : Row → List ℕ
block_tag row = concat (
    codes "<g id=\"settle-" ∷ decimal row.number ∷ codes "\" class=\"se\" transform=\"translate(0," ∷ decimal row.y
    ∷ codes ")\"><title>settle " ∷ decimal row.number ∷ codes "</title>" ∷ [])

-- the ground, and the rules above and below it
abbrev pub block : (width bottom : ℕ) → List ℕ
block width bottom = concat (
    codes "<path class=\"u\" d=\"M0 6H" ∷ decimal width ∷ codes "V" ∷ decimal bottom
    ∷ codes "H0z\"/><path class=\"v\" d=\"M0 6H" ∷ decimal width ∷ codes "M0 " ∷ decimal bottom ∷ codes "H"
    ∷ decimal width ∷ codes "\"/>"
    ∷ [])

-- up to the first path, in a size
abbrev pub opening_by : (columns width bottom : ℕ) → Row → List ℕ
opening_by columns width bottom row = block_tag row ++ block width bottom ++ uprights columns 6 bottom ++ codes "\n"

-- up to the first of so many paths
abbrev pub settle_opening : (columns paths : ℕ) → Row → List ℕ
settle_opening columns paths row = opening_by columns (width_of columns) (settle_height paths - 8) row

-- each path, where so many stand before the first
abbrev pub paths_drawn : List ℕ → NameLists → WorldState → List (Option ℕ) → (before : ℕ) → List PathView → List ℕ
paths_drawn columns names world whys before [] = []
paths_drawn columns names world whys before (view ∷ views) =
    path_row columns names world whys view before ++ paths_drawn columns names world whys (before + 1) views

-- from the end of the last path on
abbrev pub settle_end : Row → List ℕ
settle_end row = concat (
    line (codes "</g>")
    ∷ codes "<g transform=\"translate(0," ∷ decimal row.y ∷ codes ")\"><text class=\"h\" x=\"6\" y=\"22\">settle "
    ∷ decimal row.number
    ∷ line (codes "</text></g>")
    ∷ [])

-- a settle with these paths. Why all slots are closed is told by a list
abbrev pub settle_block : List ℕ → NameLists → WorldState → List (Option ℕ) → List PathView → Row → List ℕ
settle_block columns names world whys views row =
    settle_opening (length columns) (length views) row ++ paths_drawn columns names world whys 0 views ++ settle_end row
