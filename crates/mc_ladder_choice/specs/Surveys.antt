-- What is found of the entries that are drawn, before anything is.
use Rattle.std.specs.Prelude.{ℕ, ◌+◌, ◌&&◌, Bool, true, false, if◌then◌else◌, List, [], filter, length}
use Rattle.std.specs.List.{flat_map}
use Rattle.mc_model.specs.Worlds.{WorldState}
use Rattle.mc_script.specs.declared.command.JournalLine.{JournalLine}
use Rattle.mc_script.specs.declared.command.JournalLine.TheVariants.{Turn as Made, Settled}
use Rattle.mc_ladder_choice.specs.Boxes.{path_boxes, turn_boxes, with_all_new}
use Rattle.mc_ladder_choice.specs.Choices.{ChoiceState, chosen, is_of_all_boxes, shown_paths}
use Rattle.mc_ladder_choice.specs.Closings.{entry_closings, marks_of}
use Rattle.mc_ladder_choice.specs.Entries.{Entry, entries_of}

-- how many turns of a journal are drawn, and how many it has; the boxes that are asked for, and after them those that
-- take part in what is drawn with them; and of each turn, by its number from 1, whether a closed path that is drawn
-- names it
pub record SurveyState : Type 0 where
  pub drawn : ℕ
  pub turns : ℕ
  pub boxes : List ℕ
  pub closings : List Bool

abbrev pub is_turn : JournalLine → Bool
is_turn (Made turn) = true
is_turn Settled = false

-- how many of these entries are turns
abbrev pub turns_among : List Entry → ℕ
turns_among entries = length (filter (λ entry. is_turn entry.line) entries)

-- the boxes that take part in what is drawn for a line
abbrev pub line_boxes : ChoiceState → WorldState → JournalLine → List ℕ
line_boxes choice world (Made turn) = turn_boxes world turn
line_boxes choice world Settled = flat_map (λ view. path_boxes world view.low.slot) (shown_paths choice world)

-- the same, where boxes are asked for
abbrev pub drawn_boxes : ChoiceState → WorldState → JournalLine → List ℕ
drawn_boxes choice world line = if is_of_all_boxes choice then [] else line_boxes choice world line

abbrev pub entry_boxes : ChoiceState → Entry → List ℕ
entry_boxes choice entry = drawn_boxes choice entry.world entry.line

abbrev pub survey_of : ChoiceState → WorldState → List JournalLine → SurveyState
survey_of choice world journal = record {
  drawn = turns_among (chosen choice world journal);
  turns = turns_among (entries_of world journal);
  boxes = with_all_new choice.boxes (flat_map (entry_boxes choice) (chosen choice world journal));
  closings = marks_of (length journal + 1) (flat_map (entry_closings choice) (chosen choice world journal));
}
