-- A whole picture: for each turn of a journal that is drawn its row, and for each settle its paths, in the order of the
-- journal.
use Rattle.std.specs.Prelude.{ℕ, ◌+◌, Bool, false, if◌then◌else◌, List, [], ◌∷◌, ◌++◌, codes, length, Option}
use Rattle.std.specs.Fmt.{decimal}
use Rattle.mc_model.specs.Worlds.{WorldState}
use Rattle.mc_program_lines.specs.Programs.{BlockState}
use Rattle.mc_script.specs.declared.command.JournalLine.{JournalLine}
use Rattle.mc_script.specs.declared.command.JournalLine.TheVariants.{Turn as Made, Settled}
use Rattle.mc_text.specs.NameLists.{NameLists}
use Rattle.mc_ladder_choice.specs.Choices.{ChoiceState, chosen, is_whole, shown_paths}
use Rattle.mc_ladder_choice.specs.Entries.{Entry}
use Rattle.mc_ladder_choice.specs.Surveys.{SurveyState, survey_of}
use Rattle.mc_ladder_choice.specs.declared.count.Count.{Count}
use Rattle.mc_ladder.specs.Columns.{drawn_columns}
use Rattle.mc_ladder.specs.Margins.{is_marked}
use Rattle.mc_ladder_svg.specs.Elements.{text_at}
use Rattle.mc_ladder_svg.specs.Heads.{heads}
use Rattle.mc_ladder_svg.specs.Measures.{settle_height}
use Rattle.mc_ladder_svg.specs.Settles.{settle_block}
use Rattle.mc_ladder_svg.specs.Sheets.{opening}
use Rattle.mc_ladder_svg.specs.Turns.{turn_row}

-- the first row begins below the heads
abbrev pub first_y : ℕ
first_y = 44

-- the height of what is drawn for a line
abbrev pub line_height : ChoiceState → WorldState → JournalLine → ℕ
line_height choice world (Made turn) = 26
line_height choice world Settled = settle_height (length (shown_paths choice world))

-- what is drawn for a line, from a height on, where it is known which turns are marked, and why all slots are closed
abbrev pub line_rows : List ℕ → NameLists → List BlockState → ChoiceState → (closings : List Bool) → WorldState
    → (whys : List (Option ℕ)) → Count → (y : ℕ) → JournalLine → List ℕ
line_rows columns names blocks choice closings world whys count y (Made turn) =
    turn_row columns names blocks world turn
    (record { number = count.turns + 1; y = y; closing = is_marked closings (count.turns + 1) })
line_rows columns names blocks choice closings world whys count y Settled =
    settle_block columns names world whys (shown_paths choice world)
    (record { number = count.settles + 1; y = y; closing = false })

abbrev pub entry_rows : List ℕ → NameLists → List BlockState → ChoiceState → (closings : List Bool) → (y : ℕ) → Entry
    → List ℕ
entry_rows columns names blocks choice closings y entry =
    line_rows columns names blocks choice closings entry.world entry.whys entry.count y entry.line

abbrev pub entry_height : ChoiceState → Entry → ℕ
entry_height choice entry = line_height choice entry.world entry.line

-- what is drawn for these entries, one below another
abbrev pub rows_of : List ℕ → NameLists → List BlockState → ChoiceState → (closings : List Bool) → (y : ℕ) → List Entry
    → List ℕ
rows_of columns names blocks choice closings y [] = []
rows_of columns names blocks choice closings y (entry ∷ entries) =
    entry_rows columns names blocks choice closings y entry
    ++ rows_of columns names blocks choice closings (y + entry_height choice entry) entries

-- the height at which the last of them ends
abbrev pub end_of : ChoiceState → (y : ℕ) → List Entry → ℕ
end_of choice y [] = y
end_of choice y (entry ∷ entries) = end_of choice (y + entry_height choice entry) entries

-- left of the heads, a number and what it counts
abbrev pub count_text : (y number : ℕ) → (word : List ℕ) → List ℕ
count_text y number word = text_at (codes "d") 6 y (decimal number ++ 32 ∷ word)

-- how many turns are drawn, of how many
abbrev pub count_words : (drawn turns : ℕ) → List ℕ
count_words drawn turns = count_text 19 drawn (codes "of") ++ count_text 33 turns (codes "turns") ++ codes "\n"

-- where it may not be all
abbrev pub count_note : ChoiceState → SurveyState → List ℕ
count_note choice found = if is_whole choice then [] else count_words found.drawn found.turns

-- a picture with these heads and rows, where the last row ends at a height
abbrev pub picture : (columns : ℕ) → (heads rows : List ℕ) → (end : ℕ) → List ℕ
picture columns heads rows end = opening columns end ++ heads ++ rows ++ codes "</svg>\n"

-- the heads, and what stands beside them
abbrev pub top_row : (columns : List ℕ) → NameLists → WorldState → ChoiceState → SurveyState → List ℕ
top_row columns names world choice found = heads names world columns ++ count_note choice found

-- the ladder over these columns of what is drawn of a journal, of which this is found
abbrev pub ladder_by : (columns : List ℕ) → NameLists → List BlockState → WorldState → ChoiceState → SurveyState
    → List JournalLine → List ℕ
ladder_by columns names blocks world choice found journal =
    picture (length columns) (top_row columns names world choice found)
    (rows_of columns names blocks choice found.closings first_y (chosen choice world journal))
    (end_of choice first_y (chosen choice world journal))

-- the same by the survey
abbrev pub surveyed_svg : NameLists → List BlockState → WorldState → ChoiceState → SurveyState → List JournalLine
    → List ℕ
surveyed_svg names blocks world choice found journal =
    ladder_by (drawn_columns choice found names world) names blocks world choice found journal

-- the ladder of what is drawn of a journal as SVG, from the first world of a network on
abbrev pub ladder_svg : NameLists → List BlockState → WorldState → ChoiceState → List JournalLine → List ℕ
ladder_svg names blocks world choice journal =
    surveyed_svg names blocks world choice (survey_of choice world journal) journal
