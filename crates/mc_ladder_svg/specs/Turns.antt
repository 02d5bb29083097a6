-- The row of a turn: an arrow for a Take, and a mark for any other.
use Rattle.std.specs.Prelude.{ℕ, List, [], Option, Some, None}
use Rattle.mc_box.specs.declared.event.Event.{Event}
use Rattle.mc_box.specs.declared.event.Event.TheVariants.{Take, Shift}
use Rattle.mc_box.specs.declared.event.Turn.{Turn}
use Rattle.mc_model.specs.Worlds.{WorldState}
use Rattle.mc_program_lines.specs.Programs.{BlockState}
use Rattle.mc_text.specs.NameLists.{NameLists}
use Rattle.mc_ladder.specs.declared.taking.Taking.{Taking}
use Rattle.mc_ladder.specs.Rows.{next_world, state_at, state_word}
use Rattle.mc_ladder.specs.Takings.{taking_of}
use Rattle.mc_ladder_svg.specs.declared.row.Row.{Row}
use Rattle.mc_ladder_svg.specs.Arrows.{take_row}
use Rattle.mc_ladder_svg.specs.Marks.{command_row}

-- where no signal waits, which no turn of a good journal takes, nothing is drawn
abbrev pub taken_row : List ℕ → NameLists → WorldState → Option Taking → Row → List ℕ
taken_row columns names world None row = []
taken_row columns names world (Some taken) row = take_row columns names world taken row

abbrev pub row_by : List ℕ → NameLists → List BlockState → WorldState → Turn → Event → Row → List ℕ
row_by columns names blocks world turn (Take local) row =
    taken_row columns names world (taking_of world turn.who local) row
row_by columns names blocks world turn Shift row =
    command_row columns names turn (state_word blocks turn.who (state_at (next_world world turn) turn.who)) row
row_by columns names blocks world turn event row = command_row columns names turn [] row

-- the row of a turn of a world, with the turn's number and the height at which the row begins
abbrev pub turn_row : List ℕ → NameLists → List BlockState → WorldState → Turn → Row → List ℕ
turn_row columns names blocks world turn row = row_by columns names blocks world turn turn.event row
