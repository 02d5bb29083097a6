-- Which turns closed paths name: those from which the closes came by which their ends last became closed.
use Rattle.std.specs.Prelude.{◌≡◌, ℕ, ◌==◌, ◌++◌, Bool, true, false, List, [], map, slice_index_or, Option, None}
use Rattle.std.specs.List.{cons_option, flat_map, list_any, range_with_len}
use Rattle.mc_model.specs.Worlds.{WorldState}
use Rattle.mc_script.specs.declared.command.JournalLine.{JournalLine}
use Rattle.mc_script.specs.declared.command.JournalLine.TheVariants.{Turn as Made, Settled}
use Rattle.mc_view.specs.declared.PathView.{PathView}
use Rattle.mc_ladder_choice.specs.Choices.{ChoiceState, shown_paths}
use Rattle.mc_ladder_choice.specs.Entries.{Entry}

-- the turns that a path names, by the list of why all slots are closed: that of each of its ends, where it doesn't
-- flow; an end that was never open has none
abbrev pub path_closings : List (Option ℕ) → (flowing : Bool) → PathView → List ℕ
path_closings whys true view = []
path_closings whys false view =
    cons_option (slice_index_or whys view.low.slot None) (cons_option (slice_index_or whys view.high.slot None) [])

abbrev pub view_closings : List (Option ℕ) → PathView → List ℕ
view_closings whys view = path_closings whys view.flowing view

-- those that the paths name that are drawn for a line
abbrev pub line_closings : ChoiceState → WorldState → List (Option ℕ) → JournalLine → List ℕ
line_closings choice world whys (Made turn) = []
line_closings choice world whys Settled = flat_map (view_closings whys) (shown_paths choice world)

abbrev pub entry_closings : ChoiceState → Entry → List ℕ
entry_closings choice entry = line_closings choice entry.world entry.whys entry.line

-- ---- marks

-- a number is one of these
abbrev pub is_closing : List ℕ → (number : ℕ) → Bool
is_closing closings number = list_any (λ other. other == number) closings

-- of so many numbers, from 0 on, whether each is one of these
abbrev pub marks_of : (count : ℕ) → List ℕ → List Bool
marks_of count closings = map (is_closing closings) (range_with_len 0 count)

-- marks are set for more numbers
abbrev pub AddsMarks : List ℕ → (old new : List Bool) → Type 0
AddsMarks more old new =
    (count : ℕ) (closings : List ℕ) → old ≡ marks_of count closings → new ≡ marks_of count (closings ++ more)
