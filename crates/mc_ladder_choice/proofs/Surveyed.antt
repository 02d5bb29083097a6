-- A journal that is looked through line by line.
use Rattle.std.proofs.Common.{◌≡◌, ◌<◌, ◌≤◌, ◌+◌, ◌∙◌, ◌&&◌, ◌++◌, ℕ, suc, Bool, true, false, Option, List, [], ◌∷◌, drop, filter, flat_map, length, ap, refl, subst, sym, append_assoc, arith, if◌then◌else◌}
use Rattle.std.proofs.Math.ListN.{get_or}
use Rattle.std.proofs.lemmas.List.{drop_more}
use Rattle.mc_box.specs.declared.event.Turn.{Turn}
use Rattle.mc_cause.specs.Carried.{AreOfSlots, TellsCauses, WhysState}
use Rattle.mc_model.specs.Worlds.{WorldState, slot_count}
use Rattle.mc_script.specs.declared.command.JournalLine.{JournalLine}
use Rattle.mc_script.specs.declared.command.JournalLine.TheVariants.{Turn as Made, Settled}
use Rattle.mc_ladder_choice.specs.declared.count.Count.{Count}
use Rattle.mc_ladder_choice.specs.Boxes.{with_all_new}
use Rattle.mc_ladder_choice.specs.Choices.{ChoiceState, chosen, is_chosen, takes}
use Rattle.mc_ladder_choice.specs.Closings.{AddsMarks, entry_closings, line_closings, marks_of}
use Rattle.mc_ladder_choice.specs.Entries.{Entry, count_after, entries_from, entries_of, entry_at, first_count, made_after, whys_after, world_after}
use Rattle.mc_ladder_choice.specs.Noted.{NotesLine}
use Rattle.mc_ladder_choice.specs.Surveys.{drawn_boxes, entry_boxes, is_turn, turns_among}
use Rattle.mc_ladder_choice.proofs.Added.{new_append}
use Rattle.mc_ladder_choice.proofs.Noting.{whys_are}

-- the chosen ones among the entries of these lines
abbrev pub left : ChoiceState → (first : WorldState) → List Turn → WorldState → Count → List JournalLine → List Entry
left choice first made world count lines = filter (is_chosen choice) (entries_from first made world count lines)

-- these turns were made, and no number passes that of the lines
pub record IsPassed (first : WorldState) (made : List Turn) (world : WorldState) (noted : WhysState) (count : Count) (i drawn : ℕ) : Type 0 where
  pub tells : TellsCauses first made world noted
  pub slots : AreOfSlots world noted
  pub noted_few : noted.turns ≤ i
  pub turns : count.turns ≤ i
  pub settles : count.settles ≤ i
  pub few : drawn ≤ i

-- what was found, and what is left, are all
pub record IsFound (choice : ChoiceState) (first : WorldState) (journal : List JournalLine) (made : List Turn) (world : WorldState) (count : Count) (i drawn : ℕ) (boxes : List ℕ) (marks : List Bool) : Type 0 where
  pub so_many : drawn + turns_among (left choice first made world count (drop i journal)) ≡ turns_among (chosen choice first journal)
  pub of_all : count.turns + turns_among (entries_from first made world count (drop i journal)) ≡ turns_among (entries_of first journal)
  pub boxes_are : with_all_new boxes (flat_map (entry_boxes choice) (left choice first made world count (drop i journal))) ≡ with_all_new choice.boxes (flat_map (entry_boxes choice) (chosen choice first journal))
  pub named : List ℕ
  pub marked : marks ≡ marks_of (length journal + 1) named
  pub names : named ++ flat_map (entry_closings choice) (left choice first made world count (drop i journal)) ≡ flat_map (entry_closings choice) (chosen choice first journal)

-- before a line of a journal
pub record IsSurveyed (choice : ChoiceState) (first : WorldState) (journal : List JournalLine) (world : WorldState) (noted : WhysState) (count : Count) (i drawn : ℕ) (boxes : List ℕ) (marks : List Bool) : Type 0 where
  pub made : List Turn
  pub passed : IsPassed first made world noted count i drawn
  pub found : IsFound choice first journal made world count i drawn boxes marks

zero_more : (n : ℕ) → 0 + n ≡ n
zero_more n = omega arith

-- before the first one
pub begins : (choice : ChoiceState) (world : WorldState) (journal : List JournalLine) (noted : WhysState) (count : Count) (boxes : List ℕ) (marks : List Bool)
    → TellsCauses world [] world noted → AreOfSlots world noted → count ≡ first_count → boxes ≡ choice.boxes → marks ≡ marks_of (length journal + 1) []
    → IsSurveyed choice world journal world noted count 0 0 boxes marks
begins choice world journal noted count boxes marks tells slots none are unmarked = rw none (record {
  made = [];
  passed = record { tells = tells; slots = slots; noted_few = omega (arith, tells.count); turns = omega arith; settles = omega arith; few = omega arith };
  found = record {
    so_many = zero_more (turns_among (chosen choice world journal));
    of_all = zero_more (turns_among (entries_of world journal));
    boxes_are = ap (λ (l : List ℕ). with_all_new l (flat_map (entry_boxes choice) (chosen choice world journal))) are;
    named = [];
    marked = unmarked;
    names = refl;
  };
})

-- an entry more
drawn_more : (choice : ChoiceState) (entry : Entry) (entries : List Entry) (turn take : Bool) → is_turn entry.line ≡ turn → is_chosen choice entry ≡ take
    → turns_among (filter (is_chosen choice) (entry ∷ entries)) ≡ (if take && turn then suc (turns_among (filter (is_chosen choice) entries)) else turns_among (filter (is_chosen choice) entries))
drawn_more choice entry entries true true is_one takes = rw (takes, is_one) refl
drawn_more choice entry entries true false is_one takes = rw takes refl
drawn_more choice entry entries false true is_one takes = rw (takes, is_one) refl
drawn_more choice entry entries false false is_one takes = rw takes refl

sum_more : (counts : Bool) (drawn next now rest all : ℕ) → now ≡ (if counts then suc rest else rest) → next ≡ drawn + (if counts then 1 else 0) → drawn + now ≡ all → next + rest ≡ all
sum_more true drawn next now rest all is adds sum = omega (arith, is, adds, sum)
sum_more false drawn next now rest all is adds sum = omega (arith, is, adds, sum)

boxes_more : (choice : ChoiceState) (entry : Entry) (entries : List Entry) (take : Bool) → is_chosen choice entry ≡ take
    → flat_map (entry_boxes choice) (filter (is_chosen choice) (entry ∷ entries)) ≡ (if take then entry_boxes choice entry else []) ++ flat_map (entry_boxes choice) (filter (is_chosen choice) entries)
boxes_more choice entry entries true takes = rw takes refl
boxes_more choice entry entries false takes = rw takes refl

closings_more : (choice : ChoiceState) (entry : Entry) (entries : List Entry) (take : Bool) → is_chosen choice entry ≡ take
    → flat_map (entry_closings choice) (filter (is_chosen choice) (entry ∷ entries)) ≡ (if take then entry_closings choice entry else []) ++ flat_map (entry_closings choice) (filter (is_chosen choice) entries)
closings_more choice entry entries true takes = rw takes refl
closings_more choice entry entries false takes = rw takes refl

few : (turn take : Bool) → (if take && turn then 1 else 0) ≤ 1
few true true = omega arith
few true false = omega arith
few false true = omega arith
few false false = omega arith

-- a line more
counted_more : (first : WorldState) (made : List Turn) (world : WorldState) (count : Count) (line : JournalLine) (lines : List JournalLine) (all : ℕ)
    → count.turns + turns_among (entries_from first made world count (line ∷ lines)) ≡ all
    → (count_after count line).turns + turns_among (entries_from first (made_after world made line) (world_after world line) (count_after count line) lines) ≡ all
counted_more first made world count (Made turn) lines all so_far = omega (arith, so_far)
counted_more first made world count Settled lines all so_far = so_far

counts_few : (count : Count) (line : JournalLine) (i : ℕ) → count.turns ≤ i → count.settles ≤ i → ((count_after count line).turns ≤ i + 1) × ((count_after count line).settles ≤ i + 1)
counts_few count (Made turn) i turns settles = (omega arith, omega arith)
counts_few count Settled i turns settles = (omega arith, omega arith)

-- what is passed with it
passed_more : (first : WorldState) (made : List Turn) (world next_world : WorldState) (noted next_noted : WhysState) (count : Count) (line : JournalLine) (i drawn next_drawn : ℕ)
    → NotesLine world next_world line noted next_noted → next_drawn ≤ drawn + 1 → IsPassed first made world noted count i drawn
    → IsPassed first (made_after world made line) next_world next_noted (count_after count line) (i + 1) next_drawn
passed_more first made world next_world noted next_noted count line i drawn next_drawn notes one now =
    let counts = counts_few count line i now.turns now.settles in
    record {
      tells = notes.tells first made now.tells;
      slots = notes.slots;
      noted_few = omega (arith, notes.turns, now.noted_few);
      turns = counts.0;
      settles = counts.1;
      few = omega (arith, one, now.few);
    }

-- what is found with it
found_more : (choice : ChoiceState) (first : WorldState) (journal : List JournalLine) (made : List Turn) (world : WorldState) (count : Count) (i : ℕ) (default : JournalLine) (taken : Bool)
    (drawn next_drawn : ℕ) (boxes next_boxes : List ℕ) (marks next_marks : List Bool)
    → i < length journal → taken ≡ takes choice world count (get_or journal i default)
    → next_drawn ≡ drawn + (if taken && is_turn (get_or journal i default) then 1 else 0)
    → next_boxes ≡ with_all_new boxes (if taken then drawn_boxes choice world (get_or journal i default) else [])
    → AddsMarks (if taken then line_closings choice world (whys_after first made (slot_count world)) (get_or journal i default) else []) marks next_marks
    → IsFound choice first journal made world count i drawn boxes marks
    → IsFound choice first journal (made_after world made (get_or journal i default)) (world_after world (get_or journal i default)) (count_after count (get_or journal i default)) (i + 1) next_drawn next_boxes next_marks
found_more choice first journal made world count i default taken drawn next_drawn boxes next_boxes marks next_marks below is adds adds_boxes adds_marks now =
    let line = get_or journal i default in
    let entry = entry_at world (whys_after first made (slot_count world)) count line in
    let rest = entries_from first (made_after world made line) (world_after world line) (count_after count line) (drop (i + 1) journal) in
    let before = sym (drop_more journal i default below) in
    let step = drawn_more choice entry rest (is_turn line) taken refl (sym is) in
    let so_many = ap (λ (lines : List JournalLine). drawn + turns_among (left choice first made world count lines)) before ∙ now.so_many in
    let boxes_step = boxes_more choice entry rest taken (sym is) in
    let boxes_now = ap (λ (lines : List JournalLine). with_all_new boxes (flat_map (entry_boxes choice) (left choice first made world count lines))) before ∙ now.boxes_are in
    let names_step = closings_more choice entry rest taken (sym is) in
    let names_now = ap (λ (lines : List JournalLine). now.named ++ flat_map (entry_closings choice) (left choice first made world count lines)) before ∙ now.names in
    record {
      so_many = sum_more (taken && is_turn line) drawn next_drawn _ _ _ step adds so_many;
      of_all = counted_more first made world count line (drop (i + 1) journal) _ (ap (λ (lines : List JournalLine). count.turns + turns_among (entries_from first made world count lines)) before ∙ now.of_all);
      boxes_are = rw adds_boxes (sym (new_append boxes (if taken then entry_boxes choice entry else []) (flat_map (entry_boxes choice) (filter (is_chosen choice) rest)))
          ∙ (ap (with_all_new boxes) (sym boxes_step) ∙ boxes_now));
      named = now.named ++ (if taken then entry_closings choice entry else []);
      marked = adds_marks (length journal + 1) now.named now.marked;
      names = append_assoc now.named (if taken then entry_closings choice entry else []) (flat_map (entry_closings choice) (filter (is_chosen choice) rest))
          ∙ (ap (λ (l : List ℕ). now.named ++ l) (sym names_step) ∙ names_now);
    }

at_most_one : (drawn next_drawn : ℕ) (turn taken : Bool) → next_drawn ≡ drawn + (if taken && turn then 1 else 0) → next_drawn ≤ drawn + 1
at_most_one drawn next_drawn turn taken adds = let one = few turn taken in omega (arith, adds, one)

pub line_more : (choice : ChoiceState) (first : WorldState) (journal : List JournalLine) (world next_world : WorldState) (noted next_noted : WhysState) (count next_count : Count) (i : ℕ) (default : JournalLine)
    (taken : Bool) (drawn next_drawn : ℕ) (boxes next_boxes : List ℕ) (marks next_marks : List Bool)
    → i < length journal → taken ≡ takes choice world count (get_or journal i default)
    → next_drawn ≡ drawn + (if taken && is_turn (get_or journal i default) then 1 else 0)
    → next_boxes ≡ with_all_new boxes (if taken then drawn_boxes choice world (get_or journal i default) else [])
    → AddsMarks (if taken then line_closings choice world noted.whys (get_or journal i default) else []) marks next_marks
    → next_world ≡ world_after world (get_or journal i default) → NotesLine world next_world (get_or journal i default) noted next_noted
    → next_count ≡ count_after count (get_or journal i default)
    → IsSurveyed choice first journal world noted count i drawn boxes marks → IsSurveyed choice first journal next_world next_noted next_count (i + 1) next_drawn next_boxes next_marks
line_more choice first journal world next_world noted next_noted count next_count i default taken drawn next_drawn boxes next_boxes marks next_marks below is adds adds_boxes adds_marks made notes counted now =
    let line = get_or journal i default in
    let told = whys_are first now.made world noted now.passed.tells now.passed.slots in
    let marks_now : AddsMarks (if taken then line_closings choice world (whys_after first now.made (slot_count world)) line else []) marks next_marks
    = subst (λ (l : List (Option ℕ)). AddsMarks (if taken then line_closings choice world l line else []) marks next_marks) told adds_marks in
    rw counted (record {
      made = made_after world now.made line;
      passed = passed_more first now.made world next_world noted next_noted count line i drawn next_drawn notes (at_most_one drawn next_drawn (is_turn line) taken adds) now.passed;
      found = rw made (found_more choice first journal now.made world count i default taken drawn next_drawn boxes next_boxes marks next_marks below is adds adds_boxes marks_now now.found);
    })
