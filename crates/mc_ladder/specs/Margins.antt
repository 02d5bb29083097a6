-- What stands before the lanes of a turn: its number, and a mark where a closed path names it.
use Rattle.std.specs.Prelude.{ℕ, ◌-◌, Bool, true, false, List, [], ◌++◌, codes, length, slice_index_or}
use Rattle.std.specs.Fmt.{decimal}
use Rattle.mc_ladder.specs.declared.glyph.Glyph.TheVariants.{Blank}
use Rattle.mc_ladder.specs.declared.glyph.Style.{Style}
use Rattle.mc_ladder.specs.declared.lanes.TheConstants.{MARGIN}
use Rattle.mc_ladder.specs.declared.margin.Label.{Label}
use Rattle.mc_ladder.specs.declared.margin.TheConstants.{NUMBER_CELLS}
use Rattle.mc_ladder.specs.Glyphs.{cells}

-- a number is marked
abbrev pub is_marked : List Bool → (number : ℕ) → Bool
is_marked marks number = slice_index_or marks number false

-- after the number of a turn that a closed path names
abbrev pub closing_mark : (closing : Bool) → List ℕ
closing_mark true = codes " *"
closing_mark false = []

-- digits that end with their cells, a mark, and blanks up to the first column; more digits begin at the first cell
abbrev pub number_field : Style → (digits mark : List ℕ) → List ℕ
number_field style digits mark =
    cells style Blank (NUMBER_CELLS - length digits)
    ++ digits
    ++ mark
    ++ cells style Blank (MARGIN - (NUMBER_CELLS - length digits) - length digits - length mark)

abbrev pub numbered : Style → Label → List ℕ
numbered style label = number_field style (decimal label.number) (closing_mark label.closing)
