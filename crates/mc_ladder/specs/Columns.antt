-- The columns of a ladder: a box for each, in the order in which the channels name them first.
use Rattle.std.specs.Prelude.{ℕ, ◌==◌, if◌then◌else◌, List, [], filter, length, map, position}
use Rattle.std.specs.List.{range_with_len}
use Rattle.std.specs.Option.{unwrap_or}
use Rattle.mc_model.specs.Worlds.{WorldState, place, slot_count}
use Rattle.mc_text.specs.NameLists.{NameLists}
pub use Rattle.mc_ladder_choice.specs.Boxes.{is_among, with_all_new, with_new}
use Rattle.mc_ladder_choice.specs.Choices.{ChoiceState, is_of_all_boxes}
use Rattle.mc_ladder_choice.specs.Surveys.{SurveyState}

-- the box of each slot by the slots' numbers, and so the boxes as the channels name them
abbrev pub channel_boxes : WorldState → List ℕ
channel_boxes world = map (λ s. (place world s).0) (range_with_len 0 (slot_count world))

-- boxes without a channel come last, in the order of the boxes' lines
abbrev pub with_each_box : NameLists → List ℕ → List ℕ
with_each_box names columns = with_all_new columns (range_with_len 0 (length names.boxes))

-- the boxes in the order of their columns
abbrev pub columns_of : NameLists → WorldState → List ℕ
columns_of names world = with_each_box names (with_all_new [] (channel_boxes world))

-- those that are drawn: all, or, where boxes are asked for, the ones that were found
abbrev pub columns_among : ChoiceState → SurveyState → List ℕ → List ℕ
columns_among choice found columns =
    if is_of_all_boxes choice then columns else filter (λ who. is_among found.boxes who) columns

abbrev pub drawn_columns : ChoiceState → SurveyState → NameLists → WorldState → List ℕ
drawn_columns choice found names world = columns_among choice found (columns_of names world)

-- the column of a box
abbrev pub column_of : List ℕ → ℕ → ℕ
column_of columns who = unwrap_or (position (λ other. other == who) columns) 0
