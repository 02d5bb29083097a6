-- Where everything stands, in px.
use Rattle.std.specs.Prelude.{ℕ, ◌+◌, ◌-◌, ◌*◌, List, codes}
use Rattle.mc_ladder_svg.specs.declared.measure.TextSide.{TextSide}
use Rattle.mc_ladder_svg.specs.declared.measure.TextSide.TheVariants.{Left, Right}

-- the line of a column
abbrev pub x_of : ℕ → ℕ
x_of column = 176 + 136 * column

-- the width of a picture with so many columns
abbrev pub width_of : ℕ → ℕ
width_of columns = 136 * columns + 200

-- the height of a settle with so many paths
abbrev pub settle_height : ℕ → ℕ
settle_height paths = 38 + 44 * paths

-- the other side of a line
abbrev pub opposite : TextSide → TextSide
opposite Left = Right
opposite Right = Left

-- the class of a text that ends at the left of a line, or starts at its right
abbrev pub anchor : TextSide → List ℕ
anchor Left = codes "e"
anchor Right = codes "s"

-- so far to a side of a line
abbrev pub beside : TextSide → ℕ → ℕ → ℕ
beside Left x distance = x - distance
beside Right x distance = x + distance
