-- A picture line by line: what is drawn, and what is to be drawn of the lines that are left, are all.
use Rattle.std.proofs.Common.{◌≡◌, ◌<◌, ◌≤◌, ◌+◌, ◌*◌, ◌^◌, ◌++◌, ◌∙◌, ℕ, Option, Bool, true, false, List, [], ◌∷◌, drop, filter, length, ap, refl, sym, append_assoc, arith, if◌then◌else◌}
use Rattle.std.proofs.Math.ListN.{get_or}
use Rattle.std.proofs.lemmas.List.{drop_more}
use Rattle.mc_box.specs.declared.event.Turn.{Turn}
use Rattle.mc_cause.specs.Carried.{AreOfSlots, TellsCauses, WhysState}
use Rattle.mc_ladder_choice.specs.Choices.{ChoiceState, chosen, is_chosen, takes}
use Rattle.mc_ladder_choice.specs.Entries.{Entry, count_after, entries_from, entry_at, first_count, made_after, whys_after, world_after}
use Rattle.mc_ladder_choice.specs.Noted.{NotesLine}
use Rattle.mc_ladder_choice.proofs.Noting.{whys_are}
use Rattle.mc_ladder_choice.specs.declared.count.Count.{Count}
use Rattle.mc_model.specs.Worlds.{WorldState, slot_count}
use Rattle.mc_program_lines.specs.Programs.{BlockState}
use Rattle.mc_script.specs.declared.command.JournalLine.{JournalLine}
use Rattle.mc_script.specs.declared.command.JournalLine.TheVariants.{Turn as Made, Settled}
use Rattle.mc_text.specs.NameLists.{NameLists}
use Rattle.mc_ladder_svg.specs.Pictures.{end_of, entry_height, entry_rows, first_y, ladder_by, ladder_svg, line_height, line_rows, picture, rows_of, surveyed_svg, top_row}
use Rattle.mc_ladder_choice.specs.Surveys.{SurveyState, survey_of}
use Rattle.mc_ladder.specs.Columns.{drawn_columns}

-- the chosen ones among the entries of these lines
abbrev pub left : ChoiceState → (first : WorldState) → List Turn → WorldState → Count → List JournalLine → List Entry
left choice first made world count lines = filter (is_chosen choice) (entries_from first made world count lines)

-- these turns were made, and no number passes that of the lines
pub record IsPassed (first : WorldState) (made : List Turn) (world : WorldState) (noted : WhysState) (count : Count) (y i : ℕ) : Type 0 where
  pub tells : TellsCauses first made world noted
  pub slots : AreOfSlots world noted
  pub noted_few : noted.turns ≤ i
  pub turns : count.turns ≤ i
  pub settles : count.settles ≤ i
  pub few : y ≤ 44 + i * 2 ^ 72

-- before a line of a journal: the rest gives what the whole gives
pub record IsDrawn (columns : List ℕ) (names : NameLists) (blocks : List BlockState) (choice : ChoiceState) (marks : List Bool) (first : WorldState) (journal : List JournalLine) (old : List ℕ) (world : WorldState)
    (noted : WhysState) (count : Count) (y i : ℕ) (drawn : List ℕ) : Type 0 where
  pub made : List Turn
  pub passed : IsPassed first made world noted count y i
  pub rows : drawn ++ rows_of columns names blocks choice marks y (left choice first made world count (drop i journal)) ≡ old ++ rows_of columns names blocks choice marks first_y (chosen choice first journal)
  pub end : end_of choice y (left choice first made world count (drop i journal)) ≡ end_of choice first_y (chosen choice first journal)

-- before the first one
pub begins : (columns : List ℕ) (names : NameLists) (blocks : List BlockState) (choice : ChoiceState) (marks : List Bool) (world : WorldState) (journal : List JournalLine) (old : List ℕ) (noted : WhysState) (count : Count)
    → TellsCauses world [] world noted → AreOfSlots world noted → count ≡ first_count → IsDrawn columns names blocks choice marks world journal old world noted count first_y 0 old
begins columns names blocks choice marks world journal old noted count tells slots none = rw none (record {
  made = [];
  passed = record { tells = tells; slots = slots; noted_few = omega (arith, tells.count); turns = omega arith; settles = omega arith; few = omega arith };
  rows = refl;
  end = refl;
})

-- no count passes that of the lines
counts_more : (count : Count) (line : JournalLine) (i : ℕ) → count.turns ≤ i → count.settles ≤ i → ((count_after count line).turns ≤ i + 1) × ((count_after count line).settles ≤ i + 1)
counts_more count (Made turn) i turns settles = (omega arith, omega arith)
counts_more count Settled i turns settles = (omega arith, omega arith)

height_more : (y next i : ℕ) → y ≤ 44 + i * 2 ^ 72 → next < y + 2 ^ 72 → next ≤ 44 + (i + 1) * 2 ^ 72
height_more y next i before more = omega arith

-- an entry more
rows_more : (columns : List ℕ) (names : NameLists) (blocks : List BlockState) (choice : ChoiceState) (marks : List Bool) (y : ℕ) (entry : Entry) (entries : List Entry) (takes : Bool) → is_chosen choice entry ≡ takes
    → rows_of columns names blocks choice marks y (filter (is_chosen choice) (entry ∷ entries))
    ≡ (if takes then entry_rows columns names blocks choice marks y entry else []) ++ rows_of columns names blocks choice marks (if takes then y + entry_height choice entry else y) (filter (is_chosen choice) entries)
rows_more columns names blocks choice marks y entry entries true is = rw is refl
rows_more columns names blocks choice marks y entry entries false is = rw is refl

end_more : (choice : ChoiceState) (y : ℕ) (entry : Entry) (entries : List Entry) (takes : Bool) → is_chosen choice entry ≡ takes
    → end_of choice y (filter (is_chosen choice) (entry ∷ entries)) ≡ end_of choice (if takes then y + entry_height choice entry else y) (filter (is_chosen choice) entries)
end_more choice y entry entries true is = rw is refl
end_more choice y entry entries false is = rw is refl

-- what is passed with a line more
passed_more : (first : WorldState) (made : List Turn) (world next_world : WorldState) (noted next_noted : WhysState) (count : Count) (line : JournalLine) (y next_y i : ℕ)
    → NotesLine world next_world line noted next_noted → next_y < y + 2 ^ 72 → IsPassed first made world noted count y i
    → IsPassed first (made_after world made line) next_world next_noted (count_after count line) next_y (i + 1)
passed_more first made world next_world noted next_noted count line y next_y i notes lower now =
    let counts = counts_more count line i now.turns now.settles in
    record {
      tells = notes.tells first made now.tells;
      slots = notes.slots;
      noted_few = omega (arith, notes.turns, now.noted_few);
      turns = counts.0;
      settles = counts.1;
      few = height_more y next_y i now.few lower;
    }

-- a line more
pub line_more : (columns : List ℕ) (names : NameLists) (blocks : List BlockState) (choice : ChoiceState) (marks : List Bool) (first : WorldState) (journal : List JournalLine) (old : List ℕ) (world next_world : WorldState)
    (noted next_noted : WhysState) (count next_count : Count) (y next_y i : ℕ) (default : JournalLine) (drawn next_drawn : List ℕ) → i < length journal
    → next_drawn ≡ drawn ++ (if takes choice world count (get_or journal i default) then line_rows columns names blocks choice marks world noted.whys count y (get_or journal i default) else [])
    → next_world ≡ world_after world (get_or journal i default)
    → NotesLine world next_world (get_or journal i default) noted next_noted
    → next_y ≡ (if takes choice world count (get_or journal i default) then y + line_height choice world (get_or journal i default) else y)
    → next_y < y + 2 ^ 72 → next_count ≡ count_after count (get_or journal i default)
    → IsDrawn columns names blocks choice marks first journal old world noted count y i drawn → IsDrawn columns names blocks choice marks first journal old next_world next_noted next_count next_y (i + 1) next_drawn
line_more columns names blocks choice marks first journal old world next_world noted next_noted count next_count y next_y i default drawn next_drawn below rows made notes lower few counted now =
    let line = get_or journal i default in
    let told = whys_are first now.made world noted now.passed.tells now.passed.slots in
    let entry = entry_at world (whys_after first now.made (slot_count world)) count line in
    let rest = entries_from first (made_after world now.made line) (world_after world line) (count_after count line) (drop (i + 1) journal) in
    let before = sym (drop_more journal i default below) in
    let more = rows_more columns names blocks choice marks y entry rest (takes choice world count line) refl in
    let ends = end_more choice y entry rest (takes choice world count line) refl in
    let rows_now = ap (λ (lines : List JournalLine). drawn ++ rows_of columns names blocks choice marks y (left choice first now.made world count lines)) before ∙ now.rows in
    let end_now = ap (λ (lines : List JournalLine). end_of choice y (left choice first now.made world count lines)) before ∙ now.end in
    let drawn_now : next_drawn ≡ drawn ++ (if takes choice world count line then entry_rows columns names blocks choice marks y entry else [])
    = rows ∙ ap (λ (whys : List (Option ℕ)). drawn ++ (if takes choice world count line then line_rows columns names blocks choice marks world whys count y line else [])) told in
    rw counted (record {
      made = made_after world now.made line;
      passed = passed_more first now.made world next_world noted next_noted count line y next_y i notes few now.passed;
      rows = rw (drawn_now, made, lower) (append_assoc drawn _ _ ∙ (ap (λ (l : List ℕ). drawn ++ l) (sym more) ∙ rows_now));
      end = rw (made, lower) (sym ends ∙ end_now);
    })

-- the heads and the rows of a journal are its picture
pub whole : (columns : List ℕ) (names : NameLists) (blocks : List BlockState) (world : WorldState) (choice : ChoiceState) (found : SurveyState) (journal : List JournalLine)
    (drawn_heads drawn_rows text : List ℕ) (end : ℕ) → drawn_heads ≡ top_row columns names world choice found
    → drawn_rows ≡ rows_of columns names blocks choice found.closings first_y (chosen choice world journal) → end ≡ end_of choice first_y (chosen choice world journal)
    → text ≡ picture (length columns) drawn_heads drawn_rows end → text ≡ ladder_by columns names blocks world choice found journal
whole columns names blocks world choice found journal drawn_heads drawn_rows text end heads_are rows_are ends is =
    is
    ∙ (ap (λ (l : List ℕ). picture (length columns) l drawn_rows end) heads_are
    ∙ (ap (λ (l : List ℕ). picture (length columns) (top_row columns names world choice found) l end) rows_are
    ∙ ap (λ (e : ℕ). picture (length columns) (top_row columns names world choice found) (rows_of columns names blocks choice found.closings first_y (chosen choice world journal)) e) ends))

-- the picture over the columns that the survey leaves is that of what is drawn
pub by_survey : (columns : List ℕ) (names : NameLists) (blocks : List BlockState) (world : WorldState) (choice : ChoiceState) (found : SurveyState) (journal : List JournalLine) (text : List ℕ)
    → columns ≡ drawn_columns choice found names world → found ≡ survey_of choice world journal → text ≡ ladder_by columns names blocks world choice found journal
    → text ≡ ladder_svg names blocks world choice journal
by_survey columns names blocks world choice found journal text of_columns is_found is =
    is
    ∙ (ap (λ (cs : List ℕ). ladder_by cs names blocks world choice found journal) of_columns
    ∙ ap (λ (f : SurveyState). surveyed_svg names blocks world choice f journal) is_found)
