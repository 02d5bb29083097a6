-- The row of a Take: an arrow from the line of the box that sent to that of the box whose slot takes.
use Rattle.std.specs.Prelude.{ℕ, ◌-◌, Bool, true, false, if◌then◌else◌, List, [], ◌∷◌, ◌++◌, codes}
use Rattle.std.specs.Fmt.{decimal}
use Rattle.std.specs.List.{concat}
use Rattle.mc_model.specs.Worlds.{WorldState, place}
use Rattle.mc_script.specs.Meaning.{slot_name}
use Rattle.mc_signal.specs.declared.Signal.{Signal}
use Rattle.mc_text.specs.NameLists.{NameLists}
use Rattle.mc_ladder.specs.declared.arrow.Arrow.{Arrow}
use Rattle.mc_ladder.specs.declared.taking.Taking.{Taking}
use Rattle.mc_ladder.specs.Arrows.{is_right}
use Rattle.mc_ladder.specs.Placing.{place_word}
use Rattle.mc_ladder.specs.Rows.{arrow_of}
use Rattle.mc_ladder.specs.Signals.{signal_text}
use Rattle.mc_ladder_svg.specs.declared.measure.TextSide.{TextSide}
use Rattle.mc_ladder_svg.specs.declared.measure.TextSide.TheVariants.{Left, Right}
use Rattle.mc_ladder_svg.specs.declared.row.Row.{Row}
use Rattle.mc_ladder_svg.specs.Elements.{box_class, circle, text_at, text_beside}
use Rattle.mc_ladder_svg.specs.Measures.{beside, opposite, x_of}
use Rattle.mc_ladder_svg.specs.Signals.{shown_words, signal_class}
use Rattle.mc_ladder_svg.specs.TurnRows.{row_end, row_place, row_start}

-- the side to which an arrow goes
abbrev pub onward : Arrow → TextSide
onward arrow = if is_right arrow then Right else Left

-- the side from which it comes
abbrev pub back : Arrow → TextSide
back arrow = opposite (onward arrow)

-- where its line ends: 8 px before the line of the box
abbrev pub tip : Arrow → ℕ
tip arrow = beside (back arrow) (x_of arrow.to) 8

-- ---- the arrow

-- the line of a dropped signal is dashed
abbrev pub line_class : (dropped : Bool) → List ℕ
line_class true = codes "l g"
line_class false = codes "l"

abbrev pub arrow_line : Arrow → List ℕ
arrow_line arrow = concat (
    codes "<path class=\"" ∷ line_class arrow.dropped ∷ codes "\" d=\"M" ∷ decimal (x_of arrow.from) ∷ codes " 17H"
    ∷ decimal (tip arrow) ∷ codes "\"/>" ∷ [])

-- a head from its point on
abbrev pub head_shape : TextSide → List ℕ
head_shape Left = codes "l10-5v10z"
head_shape Right = codes "l-10-5v10z"

-- its point is at the line of the box
abbrev pub arrow_head : Arrow → List ℕ
arrow_head arrow =
    concat (codes "<path class=\"f\" d=\"M" ∷ decimal (x_of arrow.to) ∷ codes " 17" ∷ head_shape (onward arrow)
    ∷ codes "\"/>" ∷ [])

-- a cross, from its left edge on
abbrev pub cross_at : (left : ℕ) → List ℕ
cross_at left =
    concat (codes "<path class=\"l\" d=\"M" ∷ decimal left ∷ codes " 12l10 10M" ∷ decimal left ∷ codes " 22l10-10\"/>"
    ∷ [])

-- it stands where the line ends
abbrev pub arrow_cross : Arrow → List ℕ
arrow_cross arrow = cross_at (tip arrow - 5)

-- a dropped signal's arrow ends in a cross, and any other in a head
abbrev pub arrow_end : Arrow → List ℕ
arrow_end arrow = if arrow.dropped then arrow_cross arrow else arrow_head arrow

-- an arrow begins with a dot
abbrev pub arrow_dot : Arrow → List ℕ
arrow_dot arrow = circle (codes "f") (x_of arrow.from) 17 3

abbrev pub arrow_drawn : Arrow → List ℕ
arrow_drawn arrow = arrow_line arrow ++ arrow_dot arrow ++ arrow_end arrow

-- ---- its words

-- those of a signal stand over the gap beside the box that sent
abbrev pub arrow_words : NameLists → Arrow → Signal → List ℕ
arrow_words names arrow signal =
    text_at (codes "m") (beside (onward arrow) (x_of arrow.from) 68) 10 (shown_words names signal)

-- the name of a slot, beside the line of its box
abbrev pub slot_name_at : NameLists → WorldState → (slot : ℕ) → TextSide → (column : ℕ) → List ℕ
slot_name_at names world slot side column =
    text_beside (codes "d") side (beside side (x_of column) 8) 21
    (slot_name names (place world slot).0 (place world slot).1)

-- the names of both slots stand outside the arrow
abbrev pub slot_names : NameLists → WorldState → Arrow → Taking → List ℕ
slot_names names world arrow taken =
    slot_name_at names world taken.from (back arrow) arrow.from
    ++ slot_name_at names world taken.slot (onward arrow) arrow.to

-- the title has both places, and the signal in full
abbrev pub take_title : NameLists → WorldState → Taking → List ℕ
take_title names world taken =
    place_word names world taken.from
    ++ (32 ∷ 226 ∷ 134 ∷ 146 ∷ 32 ∷ [])
    ++ place_word names world taken.slot
    ++ signal_text names world taken.signal taken.dropped

-- ---- the row

-- up to the title
abbrev pub take_opening : Arrow → (class : List ℕ) → Row → List ℕ
take_opening arrow class row =
    row_start row.number class ++ box_class arrow.from ++ box_class arrow.to ++ row_place row.y

-- from the title's end on
abbrev pub take_picture : NameLists → WorldState → Arrow → Taking → List ℕ
take_picture names world arrow taken =
    codes "</title>" ++ arrow_drawn arrow ++ arrow_words names arrow taken.signal ++ slot_names names world arrow taken

-- with an arrow and of a class
abbrev pub take_by : NameLists → WorldState → Arrow → (class : List ℕ) → Taking → Row → List ℕ
take_by names world arrow class taken row =
    take_opening arrow class row ++ take_title names world taken ++ take_picture names world arrow taken ++ row_end row

abbrev pub take_row : List ℕ → NameLists → WorldState → Taking → Row → List ℕ
take_row columns names world taken row =
    take_by names world (arrow_of columns world taken) (signal_class taken.signal) taken row
