-- What one cell of a ladder shows, and its bytes.
use Rattle.std.specs.Prelude.{ℕ, List, [], ◌∷◌, codes}
use Rattle.std.specs.List.{flat_map, range_with_len}
use Rattle.mc_ladder.specs.declared.glyph.Glyph.{Glyph}
use Rattle.mc_ladder.specs.declared.glyph.Glyph.TheVariants.{Blank, Line, Dash, BeginsRight, BeginsLeft, Crossing, HeadRight, HeadLeft, Cross, Square, Down, Up, End, Through, Double, DoubleCrossing, Dot}
use Rattle.mc_ladder.specs.declared.glyph.Style.{Style}
use Rattle.mc_ladder.specs.declared.glyph.Style.TheVariants.{Utf8, Ascii}

-- in UTF-8, each beside the character that it is
abbrev pub utf8_bytes : Glyph → List ℕ
utf8_bytes Blank = codes " "
utf8_bytes Line = 226 ∷ 148 ∷ 130 ∷ []  -- │
utf8_bytes Dash = 226 ∷ 148 ∷ 128 ∷ []  -- ─
utf8_bytes BeginsRight = 226 ∷ 148 ∷ 156 ∷ []  -- ├
utf8_bytes BeginsLeft = 226 ∷ 148 ∷ 164 ∷ []  -- ┤
utf8_bytes Crossing = 226 ∷ 148 ∷ 188 ∷ []  -- ┼
utf8_bytes HeadRight = 226 ∷ 150 ∷ 186 ∷ []  -- ►
utf8_bytes HeadLeft = 226 ∷ 151 ∷ 132 ∷ []  -- ◄
utf8_bytes Cross = 195 ∷ 151 ∷ []  -- ×
utf8_bytes Square = 226 ∷ 150 ∷ 160 ∷ []  -- ■
utf8_bytes Down = 226 ∷ 150 ∷ 188 ∷ []  -- ▼
utf8_bytes Up = 226 ∷ 150 ∷ 178 ∷ []  -- ▲
utf8_bytes End = 226 ∷ 151 ∷ 143 ∷ []  -- ●
utf8_bytes Through = 226 ∷ 151 ∷ 139 ∷ []  -- ○
utf8_bytes Double = 226 ∷ 149 ∷ 144 ∷ []  -- ═
utf8_bytes DoubleCrossing = 226 ∷ 149 ∷ 170 ∷ []  -- ╪
utf8_bytes Dot = 194 ∷ 183 ∷ []  -- ·

-- in ASCII
abbrev pub ascii_bytes : Glyph → List ℕ
ascii_bytes Blank = codes " "
ascii_bytes Line = codes "|"
ascii_bytes Dash = codes "-"
ascii_bytes BeginsRight = codes "|"
ascii_bytes BeginsLeft = codes "|"
ascii_bytes Crossing = codes "+"
ascii_bytes HeadRight = codes ">"
ascii_bytes HeadLeft = codes "<"
ascii_bytes Cross = codes "x"
ascii_bytes Square = codes "#"
ascii_bytes Down = codes "v"
ascii_bytes Up = codes "^"
ascii_bytes End = codes "@"
ascii_bytes Through = codes "o"
ascii_bytes Double = codes "="
ascii_bytes DoubleCrossing = codes "+"
ascii_bytes Dot = codes "."

abbrev pub glyph_bytes : Style → Glyph → List ℕ
glyph_bytes Utf8 glyph = utf8_bytes glyph
glyph_bytes Ascii glyph = ascii_bytes glyph

-- what stands for each of so many places, counted from 0
abbrev pub each_of : ℕ → (ℕ → List ℕ) → List ℕ
each_of count f = flat_map f (range_with_len 0 count)

-- so many cells that are alike
abbrev pub cells : Style → Glyph → ℕ → List ℕ
cells style glyph count = each_of count (λ place. glyph_bytes style glyph)
