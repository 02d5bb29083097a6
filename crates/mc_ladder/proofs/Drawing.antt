-- A ladder line by line: what was drawn, and what is to be drawn of the lines that are left, are the whole ladder.
use Rattle.std.proofs.Common.{◌≡◌, ◌<◌, ◌≤◌, ◌+◌, ◌++◌, ℕ, Bool, true, false, Option, List, [], ◌∷◌, drop, filter, length, ap, refl, sym, ◌∙◌, append_assoc, arith, if◌then◌else◌}
use Rattle.std.proofs.Math.ListN.{get_or}
use Rattle.std.proofs.lemmas.List.{drop_more}
use Rattle.mc_box.specs.declared.event.Turn.{Turn}
use Rattle.mc_cause.specs.Carried.{AreOfSlots, TellsCauses, WhysState}
use Rattle.mc_model.specs.Worlds.{WorldState, slot_count}
use Rattle.mc_program_lines.specs.Programs.{BlockState}
use Rattle.mc_script.specs.declared.command.JournalLine.{JournalLine}
use Rattle.mc_script.specs.declared.command.JournalLine.TheVariants.{Turn as Made, Settled}
use Rattle.mc_text.specs.NameLists.{NameLists}
use Rattle.mc_ladder_choice.specs.Choices.{ChoiceState, chosen, is_chosen, takes}
use Rattle.mc_ladder_choice.specs.Entries.{Entry, count_after, entries_from, entry_at, first_count, made_after, whys_after, world_after}
use Rattle.mc_ladder_choice.specs.Noted.{NotesLine}
use Rattle.mc_ladder_choice.specs.declared.count.Count.{Count}
use Rattle.mc_ladder_choice.proofs.Noting.{whys_are}
use Rattle.mc_ladder.specs.Frames.{FrameState}
use Rattle.mc_ladder.specs.Ladders.{entry_rows, line_rows, rows_of, within_after}

-- what is drawn of these lines
abbrev pub left_to_draw : FrameState → NameLists → List BlockState → ChoiceState → List Bool → (first : WorldState) → List Turn → WorldState → Count → ℕ → List JournalLine → List ℕ
left_to_draw frame names blocks choice marks first made world count within lines = rows_of frame names blocks choice marks within (filter (is_chosen choice) (entries_from first made world count lines))

-- before a line of a journal: the rest gives what the whole gives, and no number passes that of the lines
pub record IsDrawn (frame : FrameState) (names : NameLists) (blocks : List BlockState) (choice : ChoiceState) (marks : List Bool) (first : WorldState) (journal : List JournalLine) (old : List ℕ) (world : WorldState)
    (noted : WhysState) (count : Count) (within i : ℕ) (drawn : List ℕ)
    : Type 0 where
  pub made : List Turn
  pub tells : TellsCauses first made world noted
  pub slots : AreOfSlots world noted
  pub rows : drawn ++ left_to_draw frame names blocks choice marks first made world count within (drop i journal) ≡ old ++ rows_of frame names blocks choice marks 0 (chosen choice first journal)
  pub turns : count.turns ≤ i
  pub settles : count.settles ≤ i
  pub few : within ≤ i
  pub noted_few : noted.turns ≤ i

-- before the first one
pub begins : (frame : FrameState) (names : NameLists) (blocks : List BlockState) (choice : ChoiceState) (marks : List Bool) (world : WorldState) (journal : List JournalLine) (old : List ℕ) (noted : WhysState) (count : Count)
    → TellsCauses world [] world noted → AreOfSlots world noted → count ≡ first_count → IsDrawn frame names blocks choice marks world journal old world noted count 0 0 old
begins frame names blocks choice marks world journal old noted count tells slots none = rw none (record {
  made = [];
  tells = tells;
  slots = slots;
  rows = refl;
  turns = omega arith;
  settles = omega arith;
  few = omega arith;
  noted_few = omega (arith, tells.count);
})

-- an entry more
entry_more : (frame : FrameState) (names : NameLists) (blocks : List BlockState) (choice : ChoiceState) (marks : List Bool) (within : ℕ) (entry : Entry) (entries : List Entry) (takes : Bool) → is_chosen choice entry ≡ takes
    → rows_of frame names blocks choice marks within (filter (is_chosen choice) (entry ∷ entries))
    ≡ (if takes then entry_rows frame names blocks choice marks within entry else []) ++ rows_of frame names blocks choice marks (if takes then within_after within entry.line else within) (filter (is_chosen choice) entries)
entry_more frame names blocks choice marks within entry entries true is = rw is refl
entry_more frame names blocks choice marks within entry entries false is = rw is refl

few_more : (within i : ℕ) (line : JournalLine) (takes : Bool) → within ≤ i → (if takes then within_after within line else within) ≤ i + 1
few_more within i (Made turn) true few = omega arith
few_more within i Settled true few = omega arith
few_more within i line false few = omega arith

counts_more : (count : Count) (line : JournalLine) (i : ℕ) → count.turns ≤ i → count.settles ≤ i → ((count_after count line).turns ≤ i + 1) × ((count_after count line).settles ≤ i + 1)
counts_more count (Made turn) i turns settles = (omega arith, omega arith)
counts_more count Settled i turns settles = (omega arith, omega arith)

-- a line more
pub line_more : (frame : FrameState) (names : NameLists) (blocks : List BlockState) (choice : ChoiceState) (marks : List Bool) (first : WorldState) (journal : List JournalLine) (old : List ℕ) (world next_world : WorldState)
    (noted next_noted : WhysState) (count next_count : Count) (within next_within i : ℕ) (default : JournalLine) (drawn next_drawn : List ℕ)
    → i < length journal
    → next_drawn ≡ drawn ++ (if takes choice world count (get_or journal i default) then line_rows frame names blocks choice marks world noted.whys count within (get_or journal i default) else [])
    → next_world ≡ world_after world (get_or journal i default)
    → NotesLine world next_world (get_or journal i default) noted next_noted
    → next_within ≡ (if takes choice world count (get_or journal i default) then within_after within (get_or journal i default) else within)
    → next_count ≡ count_after count (get_or journal i default)
    → IsDrawn frame names blocks choice marks first journal old world noted count within i drawn
    → IsDrawn frame names blocks choice marks first journal old next_world next_noted next_count next_within (i + 1) next_drawn
line_more frame names blocks choice marks first journal old world next_world noted next_noted count next_count within next_within i default drawn next_drawn below rows made notes inside counted now =
    let line = get_or journal i default in
    let told = whys_are first now.made world noted now.tells now.slots in
    let entry = entry_at world (whys_after first now.made (slot_count world)) count line in
    let rest = entries_from first (made_after world now.made line) (world_after world line) (count_after count line) (drop (i + 1) journal) in
    let left = sym (drop_more journal i default below) in
    let more = entry_more frame names blocks choice marks within entry rest (takes choice world count line) refl in
    let counts = counts_more count line i now.turns now.settles in
    let before = ap (λ (lines : List JournalLine). drawn ++ left_to_draw frame names blocks choice marks first now.made world count within lines) left ∙ now.rows in
    let drawn_now : next_drawn ≡ drawn ++ (if takes choice world count line then entry_rows frame names blocks choice marks within entry else [])
    = rows ∙ ap (λ (whys : List (Option ℕ)). drawn ++ (if takes choice world count line then line_rows frame names blocks choice marks world whys count within line else [])) told in
    rw (drawn_now, inside, counted) (record {
      made = made_after world now.made line;
      tells = notes.tells first now.made now.tells;
      slots = notes.slots;
      rows = rw made (append_assoc drawn _ _ ∙ (ap (λ (l : List ℕ). drawn ++ l) (sym more) ∙ before));
      turns = counts.0;
      settles = counts.1;
      few = few_more within i line (takes choice world count line) now.few;
      noted_few = omega (arith, notes.turns, now.noted_few);
    })
