-- What of a journal is drawn: which of its entries, and which paths at a settle.
use Rattle.std.specs.Prelude.{ℕ, ◌+◌, ◌==◌, ◌&&◌, ◌||◌, Bool, true, false, if◌then◌else◌, List, filter, length, map, nat_le}
use Rattle.std.specs.Prelude.{Option, None, Some, is_none}
use Rattle.std.specs.List.{list_any}
use Rattle.mc_model.specs.Paths.{paths}
use Rattle.mc_model.specs.Worlds.{WorldState}
use Rattle.mc_path.specs.Views.{view_of}
use Rattle.mc_script.specs.declared.command.JournalLine.{JournalLine}
use Rattle.mc_script.specs.declared.command.JournalLine.TheVariants.{Turn as Made, Settled}
use Rattle.mc_view.specs.declared.PathView.{PathView}
use Rattle.mc_ladder_choice.specs.declared.choice.Span.{Span}
use Rattle.mc_ladder_choice.specs.declared.count.Count.{Count}
use Rattle.mc_ladder_choice.specs.Boxes.{is_among, path_boxes, turn_boxes}
use Rattle.mc_ladder_choice.specs.Entries.{Entry, entries_of}

-- the settles of which something is drawn, where not of all, and the boxes that are asked for; none are where all is
-- drawn
pub record ChoiceState : Type 0 where
  pub settles : Option Span
  pub boxes : List ℕ

-- no box is asked for
abbrev pub is_of_all_boxes : ChoiceState → Bool
is_of_all_boxes choice = length choice.boxes == 0

-- all of a journal is drawn, whichever it is
abbrev pub is_whole : ChoiceState → Bool
is_whole choice = is_none choice.settles && is_of_all_boxes choice

-- one of these boxes is asked for
abbrev pub concerns : ChoiceState → List ℕ → Bool
concerns choice boxes = is_of_all_boxes choice || list_any (λ who. is_among choice.boxes who) boxes

-- ---- entries

-- a settle, by its number from 1, is one of these; each is, where none are named
abbrev pub is_within : Option Span → (number : ℕ) → Bool
is_within None number = true
is_within (Some span) number = nat_le span.first number && nat_le number span.last

-- a turn is drawn where a box that is asked for takes part in it, and a settle in any case
abbrev pub takes_line : ChoiceState → WorldState → JournalLine → Bool
takes_line choice world (Made turn) = concerns choice (turn_boxes world turn)
takes_line choice world Settled = true

-- a line after so many others is drawn where its settle is, which is the next one that ends
abbrev pub takes : ChoiceState → WorldState → Count → JournalLine → Bool
takes choice world count line = is_within choice.settles (count.settles + 1) && takes_line choice world line

abbrev pub is_chosen : ChoiceState → Entry → Bool
is_chosen choice entry = takes choice entry.world entry.count entry.line

-- the entries of a journal that are drawn, in their order
abbrev pub chosen : ChoiceState → WorldState → List JournalLine → List Entry
chosen choice world journal = filter (is_chosen choice) (entries_of world journal)

-- ---- paths

-- a path is drawn where it goes through a box that is asked for
abbrev pub takes_path : ChoiceState → WorldState → PathView → Bool
takes_path choice world view = concerns choice (path_boxes world view.low.slot)

-- the paths of a world, as they are shown
abbrev pub views_of : WorldState → List PathView
views_of world = map (view_of world) (paths world)

-- those that are drawn
abbrev pub shown_paths : ChoiceState → WorldState → List PathView
shown_paths choice world =
    if is_of_all_boxes choice then views_of world else filter (takes_path choice world) (views_of world)
