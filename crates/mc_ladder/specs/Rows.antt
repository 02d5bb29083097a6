-- The row of a turn: an arrow for a Take, and a mark for any other.
use Rattle.std.specs.Prelude.{ℕ, Bool, List, [], ◌∷◌, ◌++◌, codes, if◌then◌else◌, length, slice_index_or, Option, Some, None, ◌==◌}
use Rattle.mc_box.specs.declared.event.Change.TheVariants.{End as NewEnd, Link as NewLink}
use Rattle.mc_box.specs.declared.event.Event.{Event}
use Rattle.mc_box.specs.declared.event.Event.TheVariants.{Take, Set, Media, Tell, Retry, Shift}
use Rattle.mc_box.specs.declared.event.MediaChange.TheVariants.{Hear, Talk}
use Rattle.mc_box.specs.declared.event.Turn.{Turn}
use Rattle.mc_model.specs.Worlds.{WorldState, box_at, place}
use Rattle.mc_program_lines.specs.Programs.{BlockState}
use Rattle.mc_script.specs.Meaning.{goal_word, slot_name, switch_word}
use Rattle.mc_text.specs.NameLists.{NameLists}
pub use Rattle.mc_ladder_choice.specs.Entries.{next_world}
use Rattle.mc_ladder.specs.declared.arrow.Arrow.{Arrow}
use Rattle.mc_ladder.specs.declared.glyph.Glyph.{Glyph}
use Rattle.mc_ladder.specs.declared.glyph.Glyph.TheVariants.{Square, Down, Up}
use Rattle.mc_ladder.specs.declared.glyph.Style.{Style}
use Rattle.mc_ladder.specs.declared.margin.Label.{Label}
use Rattle.mc_ladder.specs.declared.mark.Mark.{Mark}
use Rattle.mc_ladder.specs.declared.taking.Taking.{Taking}
use Rattle.mc_ladder.specs.Arrows.{arrow_lanes}
use Rattle.mc_ladder.specs.Columns.{column_of}
use Rattle.mc_ladder.specs.Frames.{FrameState}
use Rattle.mc_ladder.specs.Margins.{numbered}
use Rattle.mc_ladder.specs.Marks.{mark_lanes}
use Rattle.mc_ladder.specs.Placing.{box_place, place_word, take_place}
use Rattle.mc_ladder.specs.Signals.{signal_text, signal_word}
use Rattle.mc_ladder.specs.Takings.{taking_of}
use Rattle.mc_ladder.specs.Words.{spaced}

-- ---- a Take

-- from the box of the slot that sent to that of the slot that takes
abbrev pub arrow_of : List ℕ → WorldState → Taking → Arrow
arrow_of columns world taken = record {
  from = column_of columns (place world taken.from).0;
  to = column_of columns (place world taken.slot).0;
  dropped = taken.dropped;
}

-- after the lanes: both places, and the signal in words
abbrev pub take_tail : FrameState → NameLists → WorldState → Taking → List ℕ
take_tail frame names world taken =
    take_place frame.style (place_word names world taken.from) (place_word names world taken.slot) frame.width
    ++ 32 ∷ (signal_text names world taken.signal taken.dropped ++ 10 ∷ [])

-- the number, and the arrow
abbrev pub take_lanes : Style → List ℕ → WorldState → Taking → Label → List ℕ
take_lanes style columns world taken label =
    numbered style label
    ++ arrow_lanes style (length columns) (arrow_of columns world taken) (signal_word taken.signal)

abbrev pub take_row : FrameState → NameLists → WorldState → Taking → Label → List ℕ
take_row frame names world taken label =
    take_lanes frame.style frame.columns world taken label ++ take_tail frame names world taken

-- where no signal waits, which no turn of a good journal takes, there is no row
abbrev pub taken_row : FrameState → NameLists → WorldState → Option Taking → Label → List ℕ
taken_row frame names world None label = []
taken_row frame names world (Some taken) label = take_row frame names world taken label

-- ---- any other turn

abbrev pub command_word : Event → List ℕ
command_word (Take local) = codes "take"
command_word (Set (NewEnd local goal)) = codes "set"
command_word (Set (NewLink local other)) = codes "link"
command_word (Media (Hear local on)) = codes "hear"
command_word (Media (Talk local on)) = codes "talk"
command_word (Tell told) = codes "tell"
command_word (Retry local) = codes "retry"
command_word Shift = codes "shift"

-- on the line of its box: a triangle that points down for a Shift, one that points up for a Retry, and else a square
abbrev pub mark_glyph_of : Event → Glyph
mark_glyph_of Shift = Down
mark_glyph_of (Retry local) = Up
mark_glyph_of event = Square

abbrev pub switch_text : Bool → List ℕ
switch_text on = spaced (switch_word on)

-- the words after the first and the box, each after a space; a Shift leads to this state
abbrev pub command_rest : NameLists → (who : ℕ) → Event → (state : List ℕ) → List ℕ
command_rest names who (Take local) state = spaced (slot_name names who local)
command_rest names who (Set (NewEnd local goal)) state = spaced (slot_name names who local) ++ spaced (goal_word goal)
command_rest names who (Set (NewLink local other)) state =
    spaced (slot_name names who local) ++ spaced (slot_name names who other)
command_rest names who (Media (Hear local on)) state = spaced (slot_name names who local) ++ switch_text on
command_rest names who (Media (Talk local on)) state = spaced (slot_name names who local) ++ switch_text on
command_rest names who (Tell told) state = spaced (slice_index_or names.told told [])
command_rest names who (Retry local) state = spaced (slot_name names who local)
command_rest names who Shift state = spaced (codes "to") ++ spaced state

-- after the lanes: the box, and the turn in words
abbrev pub command_tail : FrameState → NameLists → Turn → (state : List ℕ) → List ℕ
command_tail frame names turn state =
    box_place frame.style (slice_index_or names.boxes turn.who []) frame.width
    ++ 32 ∷ (spaced (command_word turn.event) ++ command_rest names turn.who turn.event state ++ 10 ∷ [])

-- the mark at its box
abbrev pub mark_of : List ℕ → Turn → Mark
mark_of columns turn = record { at = column_of columns turn.who; glyph = mark_glyph_of turn.event }

-- the number, and the mark
abbrev pub command_lanes : Style → List ℕ → Turn → Label → List ℕ
command_lanes style columns turn label =
    numbered style label ++ mark_lanes style (length columns) (mark_of columns turn) (command_word turn.event)

abbrev pub command_row : FrameState → NameLists → Turn → (state : List ℕ) → Label → List ℕ
command_row frame names turn state label =
    command_lanes frame.style frame.columns turn label ++ command_tail frame names turn state

-- ---- the state of a program

-- the number of the state that a box is at
abbrev pub state_at : WorldState → ℕ → Option ℕ
state_at world who = (box_at world who).at

-- the name of a state of a box's program, among these programs
abbrev pub state_among : List BlockState → (who at : ℕ) → List ℕ
state_among [] who at = []
state_among (block ∷ others) who at =
    if block.who == who then slice_index_or block.states at [] else state_among others who at

-- the same of the state that a box is at, if it is at one
abbrev pub state_word : List BlockState → (who : ℕ) → Option ℕ → List ℕ
state_word blocks who None = []
state_word blocks who (Some at) = state_among blocks who at

-- ---- a turn

abbrev pub row_by : FrameState → NameLists → List BlockState → WorldState → Turn → Event → Label → List ℕ
row_by frame names blocks world turn (Take local) label =
    taken_row frame names world (taking_of world turn.who local) label
row_by frame names blocks world turn Shift label =
    command_row frame names turn (state_word blocks turn.who (state_at (next_world world turn) turn.who)) label
row_by frame names blocks world turn event label = command_row frame names turn [] label

-- the row of a turn of a world, with the turn's label
abbrev pub turn_row : FrameState → NameLists → List BlockState → WorldState → Turn → Label → List ℕ
turn_row frame names blocks world turn label = row_by frame names blocks world turn turn.event label
