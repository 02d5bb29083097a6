-- The line of a path, from its left end to its right, over each box that it goes through.
use Rattle.std.specs.Prelude.{ℕ, ◌+◌, ◌-◌, ◌*◌, ◌/◌, ◌==◌, Bool, true, false, if◌then◌else◌, nat_lt, List, [], ◌++◌, codes, length, reverse, slice_index_or}
use Rattle.std.specs.Fmt.{decimal}
use Rattle.mc_model.specs.Worlds.{WorldState}
use Rattle.mc_ladder.specs.declared.path.Ends.{Ends}
use Rattle.mc_ladder.specs.Glyphs.{each_of}
use Rattle.mc_ladder.specs.Routes.{path_columns}
use Rattle.mc_ladder_svg.specs.Elements.{circle}
use Rattle.mc_ladder_svg.specs.Measures.{x_of}

-- the lower end stands at the right
abbrev pub is_turned : Ends → Bool
is_turned ends = nat_lt ends.high ends.low

-- the column of the left end
abbrev pub left_of : Ends → ℕ
left_of ends = if is_turned ends then ends.high else ends.low

-- the column of the right end
abbrev pub right_of : Ends → ℕ
right_of ends = if is_turned ends then ends.low else ends.high

abbrev pub from_left : Ends → List ℕ → List ℕ
from_left ends stops = if is_turned ends then reverse stops else stops

-- the columns of the slots of a path from its left end on: two for each tunnel
abbrev pub stops_drawn : List ℕ → WorldState → (low : ℕ) → Ends → List ℕ
stops_drawn columns world low ends = from_left ends (path_columns columns world low)

-- ---- its legs: one for each tunnel

abbrev pub column_at : List ℕ → ℕ → ℕ
column_at stops place = slice_index_or stops place 0

-- the height of a leg: one that goes back to the left lies lower
abbrev pub leg_height : List ℕ → (leg : ℕ) → ℕ
leg_height stops leg = if nat_lt (column_at stops (2 * leg)) (column_at stops (2 * leg + 1)) then 18 else 26

-- where the first leg begins, and an upright to any other that has another height than the one before
abbrev pub bend : List ℕ → (leg : ℕ) → List ℕ
bend stops leg =
    if leg == 0 then codes "M" ++ (decimal (x_of (column_at stops 0)) ++ (codes " " ++ decimal (leg_height stops leg)))
    else if leg_height stops (leg - 1) == leg_height stops leg then []
    else codes "V" ++ decimal (leg_height stops leg)

abbrev pub leg_line : List ℕ → (leg : ℕ) → List ℕ
leg_line stops leg = codes "H" ++ decimal (x_of (column_at stops (2 * leg + 1)))

-- a leg, from where the one before ends
abbrev pub step : List ℕ → (leg : ℕ) → List ℕ
step stops leg = bend stops leg ++ leg_line stops leg

abbrev pub legs : List ℕ → List ℕ
legs stops = each_of (length stops / 2) (step stops)

-- the line of a flowing path is thick, and that of a closed one dotted
abbrev pub line_class : (flowing : Bool) → List ℕ
line_class true = codes "<path class=\"k\" d=\""
line_class false = codes "<path class=\"q\" d=\""

abbrev pub route : (flowing : Bool) → List ℕ → List ℕ
route flowing stops = line_class flowing ++ legs stops ++ codes "\"/>"

-- ---- its boxes

-- a hollow dot where a box links a leg with the next, between their heights
abbrev pub link_circle : List ℕ → (leg : ℕ) → List ℕ
link_circle stops leg =
    circle (codes "x") (x_of (column_at stops (2 * leg + 1)))
    ((leg_height stops leg + leg_height stops (leg + 1)) / 2) 4

abbrev pub links : List ℕ → List ℕ
links stops = each_of (length stops / 2 - 1) (link_circle stops)

-- the full dots of both ends
abbrev pub left_end : Ends → List ℕ → List ℕ
left_end ends stops = circle (codes "f") (x_of (left_of ends)) (leg_height stops 0) 5

abbrev pub right_end : Ends → List ℕ → List ℕ
right_end ends stops = circle (codes "f") (x_of (right_of ends)) (leg_height stops (length stops / 2 - 1)) 5

abbrev pub ends_drawn : Ends → List ℕ → List ℕ
ends_drawn ends stops = left_end ends stops ++ right_end ends stops
