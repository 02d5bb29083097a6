-- Elements that several rows have.
use Rattle.std.specs.Prelude.{ℕ, List, [], ◌∷◌, ◌++◌, codes}
use Rattle.std.specs.Fmt.{decimal}
use Rattle.std.specs.List.{concat}
use Rattle.mc_ladder.specs.Glyphs.{each_of}
use Rattle.mc_ladder_svg.specs.declared.measure.TextSide.{TextSide}
use Rattle.mc_ladder_svg.specs.Measures.{anchor, x_of}

-- what stands before the words of a text
abbrev pub text_opening : (class : List ℕ) → (x y : ℕ) → List ℕ
text_opening class x y = concat (
    codes "<text class=\"" ∷ class ∷ codes "\" x=\"" ∷ decimal x ∷ codes "\" y=\"" ∷ decimal y ∷ codes "\">" ∷ [])

-- words at a place; their class says how they look, and where their place is in them
abbrev pub text_at : (class : List ℕ) → (x y : ℕ) → (words : List ℕ) → List ℕ
text_at class x y words = text_opening class x y ++ words ++ codes "</text>"

-- the same at a side of a line
abbrev pub text_beside : (class : List ℕ) → TextSide → (x y : ℕ) → (words : List ℕ) → List ℕ
text_beside class side x y words = text_at (class ++ 32 ∷ anchor side) x y words

abbrev pub circle : (class : List ℕ) → (x y radius : ℕ) → List ℕ
circle class x y radius = concat (
    codes "<circle class=\"" ∷ class ∷ codes "\" cx=\"" ∷ decimal x ∷ codes "\" cy=\"" ∷ decimal y ∷ codes "\" r=\""
    ∷ decimal radius ∷ codes "\"/>" ∷ [])

-- the class by which a row tells that a column takes part in it
abbrev pub box_class : ℕ → List ℕ
box_class column = codes " b" ++ decimal column

-- the line of a column, from one height to another
abbrev pub upright : (top bottom column : ℕ) → List ℕ
upright top bottom column =
    concat (codes "M" ∷ decimal (x_of column) ∷ codes " " ∷ decimal top ∷ codes "V" ∷ decimal bottom ∷ [])

abbrev pub upright_each : (columns top bottom : ℕ) → List ℕ
upright_each columns top bottom = each_of columns (upright top bottom)

-- the lines of so many columns
abbrev pub uprights : (columns top bottom : ℕ) → List ℕ
uprights columns top bottom = codes "<path class=\"v\" d=\"" ++ upright_each columns top bottom ++ codes "\"/>"
