-- A whole ladder: for each turn of a journal that is drawn its row, and for each settle its paths, in the order of the
-- journal.
use Rattle.std.specs.Prelude.{ℕ, ◌+◌, ◌%◌, ◌==◌, Bool, if◌then◌else◌, List, [], ◌∷◌, ◌++◌, codes, Option}
use Rattle.std.specs.Fmt.{decimal}
use Rattle.mc_model.specs.Worlds.{WorldState}
use Rattle.mc_program_lines.specs.Programs.{BlockState}
use Rattle.mc_script.specs.declared.command.JournalLine.{JournalLine}
use Rattle.mc_script.specs.declared.command.JournalLine.TheVariants.{Turn as Made, Settled}
use Rattle.mc_table.specs.Words.{line_of}
use Rattle.mc_text.specs.NameLists.{NameLists}
pub use Rattle.mc_ladder_choice.specs.Entries.{world_after}
use Rattle.mc_ladder_choice.specs.Choices.{ChoiceState, chosen, is_whole, shown_paths}
use Rattle.mc_ladder_choice.specs.Entries.{Entry}
use Rattle.mc_ladder_choice.specs.Surveys.{SurveyState, survey_of}
use Rattle.mc_ladder_choice.specs.declared.count.Count.{Count}
use Rattle.mc_ladder.specs.declared.glyph.Style.{Style}
use Rattle.mc_ladder.specs.declared.ladder.TheConstants.{HEADS_EVERY}
use Rattle.mc_ladder.specs.Columns.{drawn_columns}
use Rattle.mc_ladder.specs.Frames.{FrameState, frame_of}
use Rattle.mc_ladder.specs.Heads.{heads}
use Rattle.mc_ladder.specs.Margins.{is_marked}
use Rattle.mc_ladder.specs.declared.margin.Label.{Label}
use Rattle.mc_ladder.specs.Rows.{turn_row}
use Rattle.mc_ladder.specs.Settling.{settle_rows}

-- heads stand before the first turn of each settle, and again before each that comes after forty more
abbrev pub heads_due : FrameState → NameLists → (within : ℕ) → List ℕ
heads_due frame names within = if within % HEADS_EVERY == 0 then heads frame names else []

-- how many turns of a settle are drawn, after one line more
abbrev pub within_after : (within : ℕ) → JournalLine → ℕ
within_after within (Made turn) = within + 1
within_after within Settled = 0

-- the label of a turn: its number, and whether it is marked
abbrev pub label_of : (closings : List Bool) → (number : ℕ) → Label
label_of closings number = record { number = number; closing = is_marked closings number }

-- what is drawn for a line, after so many turns of its settle, where it is known which turns are marked, and why all
-- slots are closed
abbrev pub line_rows : FrameState → NameLists → List BlockState → ChoiceState → (closings : List Bool) → WorldState
    → (whys : List (Option ℕ)) → Count → (within : ℕ) → JournalLine → List ℕ
line_rows frame names blocks choice closings world whys count within (Made turn) =
    heads_due frame names within ++ turn_row frame names blocks world turn (label_of closings (count.turns + 1))
line_rows frame names blocks choice closings world whys count within Settled =
    settle_rows frame names world whys (shown_paths choice world) (count.settles + 1)

abbrev pub entry_rows : FrameState → NameLists → List BlockState → ChoiceState → (closings : List Bool) → (within : ℕ)
    → Entry → List ℕ
entry_rows frame names blocks choice closings within entry =
    line_rows frame names blocks choice closings entry.world entry.whys entry.count within entry.line

-- what is drawn for these entries, one after another
abbrev pub rows_of : FrameState → NameLists → List BlockState → ChoiceState → (closings : List Bool) → (within : ℕ)
    → List Entry → List ℕ
rows_of frame names blocks choice closings within [] = []
rows_of frame names blocks choice closings within (entry ∷ entries) =
    entry_rows frame names blocks choice closings within entry
    ++ rows_of frame names blocks choice closings (within_after within entry.line) entries

-- how many turns are drawn, of how many, where it may not be all
abbrev pub count_line : ChoiceState → SurveyState → List ℕ
count_line choice found =
    if is_whole choice then []
    else line_of (decimal found.drawn ∷ codes "of" ∷ decimal found.turns ∷ codes "turns" ∷ [])

-- the frame for what is drawn
abbrev pub drawn_frame : Style → NameLists → WorldState → ChoiceState → SurveyState → FrameState
drawn_frame style names world choice found = frame_of style names world (drawn_columns choice found names world)

-- the ladder of what is drawn of a journal, of which this is found, from the first world of a network on
abbrev pub ladder_by : Style → NameLists → List BlockState → WorldState → ChoiceState → SurveyState → List JournalLine
    → List ℕ
ladder_by style names blocks world choice found journal =
    count_line choice found
    ++ rows_of (drawn_frame style names world choice found) names blocks choice found.closings 0
    (chosen choice world journal)

abbrev pub ladder_text : Style → NameLists → List BlockState → WorldState → ChoiceState → List JournalLine → List ℕ
ladder_text style names blocks world choice journal =
    ladder_by style names blocks world choice (survey_of choice world journal) journal
