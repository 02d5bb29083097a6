-- What each turn's row has: its place and its number.
use Rattle.std.specs.Prelude.{ℕ, Bool, true, false, List, [], ◌∷◌, ◌++◌, codes}
use Rattle.std.specs.Fmt.{decimal}
use Rattle.std.specs.List.{concat}
use Rattle.mc_ladder_svg.specs.declared.row.Row.{Row}
use Rattle.mc_ladder_svg.specs.Sheets.{line}

-- the beginning of a row, up to the class of its colour
abbrev pub row_start : (number : ℕ) → (class : List ℕ) → List ℕ
row_start number class = codes "<g id=\"turn-" ++ (decimal number ++ (codes "\" class=\"" ++ class))

-- its place, up to its title
abbrev pub row_place : (y : ℕ) → List ℕ
row_place y = concat (codes "\" transform=\"translate(0," ∷ decimal y ∷ codes ")\"><title>" ∷ [])

-- after the number of a turn that a closed path names
abbrev pub closing_mark : (closing : Bool) → List ℕ
closing_mark true = codes "<text class=\"cl h s\" x=\"55\" y=\"21\">*</text>"
closing_mark false = []

-- its end, and its number
abbrev pub row_number : Row → List ℕ
row_number row = concat (
    line (codes "</g>")
    ∷ codes "<g transform=\"translate(0," ∷ decimal row.y ∷ codes ")\"><text class=\"d e\" x=\"52\" y=\"21\">"
    ∷ decimal row.number ∷ codes "</text>"
    ∷ [])

-- and its mark
abbrev pub row_end : Row → List ℕ
row_end row = row_number row ++ closing_mark row.closing ++ line (codes "</g>")
