-- What is printed for the lines of a journal is read as these lines.
use Rattle.std.proofs.Common.{◌≡◌, ℕ, ◌≤◌, Bool, true, false, ◌||◌, not, All, Option, Some, None, List, [], ◌∷◌, ◌++◌, codes, length, map, nat_lt, slice_index_or, IsTrue, refl, ap, ap₂, subst, ◌∙◌, append_assoc, arith}
use Rattle.std.proofs.lemmas.Grind.{common_steps}
use Rattle.std.proofs.lemmas.List.Elements.{All-from_recursion, recursion_from_All}
use Rattle.std.proofs.lemmas.List.Splits.{slice_split_at}
use Rattle.std.specs.List.{AllByRecursion, join_with_byte, list_any}
use Rattle.std.specs.Option.{option_and_then}
use Rattle.mc_slot.specs.declared.Goal.{Goal}
use Rattle.mc_slot.specs.declared.Goal.TheVariants.{Open as ToOpen, Close as ToClose, Hold as ToHold}
use Rattle.mc_text.specs.Lines.{is_line_end, lines}
use Rattle.mc_text.specs.NameLists.{NameLists, slot_names}
use Rattle.mc_text.proofs.Cuts.{some_pieces}
use Rattle.mc_box.specs.BoxShapes.{BoxShapeState, is_enabled_by, shape_of}
use Rattle.mc_box.specs.declared.event.Change.TheVariants.{End as NewEnd, Link as NewLink}
use Rattle.mc_box.specs.declared.event.Event.{Event}
use Rattle.mc_box.specs.declared.event.Event.TheVariants.{Take, Set, Media, Tell, Retry, Shift}
use Rattle.mc_box.specs.declared.event.MediaChange.TheVariants.{Hear, Talk}
use Rattle.mc_box.specs.declared.event.Turn.{Turn}
use Rattle.mc_script.specs.Meaning.{command_of, event_words, goal_word, switch_word}
use Rattle.mc_script.specs.Printed.{IsFound, IsFoundEvent}
use Rattle.mc_script.specs.Rules.{byte_rules, command_rules, is_plain, least_broken}
use Rattle.mc_script.specs.declared.command.Command.{Command}
use Rattle.mc_script.specs.declared.command.Command.TheVariants.{Stimulus}
use Rattle.mc_script.specs.declared.command.JournalLine.{JournalLine}
use Rattle.mc_script.specs.declared.command.JournalLine.TheVariants.{Turn as Made, Settled}
use Rattle.mc_script.specs.declared.line.TheConstants.{LINE_LIMIT}
use Rattle.mc_script.specs.declared.rule.TheConstants.{LINE_TOO_LONG, STRANGE_BYTE}
use Rattle.mc_script.proofs.Apart.{AreWords, IsLine, is_word, line_of, name_is_word}
use Rattle.mc_script.proofs.Read.{printed_is_read}
use Rattle.mc_journal.specs.Laws.{JournalsAreRead}
use Rattle.mc_journal.specs.Printed.{AllowsLine, AllowsTurn, IsFoundLine, IsFoundTurn, line_words, print_journal, turn_words}
use Rattle.mc_journal.specs.Readings.{is_bad, line_reading, readings, stimulus_of, turn_reading, turn_said, unbroken}
use Rattle.mc_journal.specs.declared.reading.LineReading.{LineReading}
use Rattle.mc_journal.specs.declared.reading.LineReading.TheVariants.{Line}
use Rattle.mc_journal.proofs.Going.{said, said-more}

-- ---- the words of a line

goal_is_word : (goal : Goal) → is_word (goal_word goal) ≡ true
goal_is_word ToOpen = refl
goal_is_word ToClose = refl
goal_is_word ToHold = refl

switch_is_word : (on : Bool) → is_word (switch_word on) ≡ true
switch_is_word true = refl
switch_is_word false = refl

-- a name that is found is a word
found_is_word : (names : List (List ℕ)) (number : ℕ) → IsFound names number → is_word (slice_index_or names number []) ≡ true
found_is_word names number found = name_is_word (slice_index_or names number []) found.0

module _ (names : NameLists) where
  -- a command has at most four words
  event_few : (who : ℕ) (event : Event) → length (event_words names who event) ≤ 4
  event_few who (Set (NewEnd local goal)) = omega arith
  event_few who (Set (NewLink local other)) = omega arith
  event_few who (Media (Hear local on)) = omega arith
  event_few who (Media (Talk local on)) = omega arith
  event_few who (Tell told) = omega arith
  event_few who (Take local) = omega arith
  event_few who (Retry local) = omega arith
  event_few who Shift = omega arith

  event_are : (who : ℕ) (event : Event) → IsFoundEvent names who event → AreWords (event_words names who event)
  event_are who (Set (NewEnd local goal)) found = (refl, (found_is_word names.boxes who found.0, (found_is_word (slot_names names who) local found.1, (goal_is_word goal, tt))))
  event_are who (Set (NewLink local other)) found = (refl, (found_is_word names.boxes who found.0.0, (found_is_word (slot_names names who) local found.0.1, (found_is_word (slot_names names who) other found.1.1, tt))))
  event_are who (Media (Hear local on)) found = (refl, (found_is_word names.boxes who found.0, (found_is_word (slot_names names who) local found.1, (switch_is_word on, tt))))
  event_are who (Media (Talk local on)) found = (refl, (found_is_word names.boxes who found.0, (found_is_word (slot_names names who) local found.1, (switch_is_word on, tt))))
  event_are who (Tell told) found = (refl, (found_is_word names.boxes who found.0, (found_is_word names.told told found.1, tt)))
  event_are who (Take local) found = absurd found
  event_are who (Retry local) found = absurd found
  event_are who Shift found = absurd found

  -- and so has a turn
  turn_few : (who : ℕ) (event : Event) → length (turn_words names who event) ≤ 4
  turn_few who (Take local) = omega arith
  turn_few who (Retry local) = omega arith
  turn_few who Shift = omega arith
  turn_few who (Set change) = event_few who (Set change)
  turn_few who (Media change) = event_few who (Media change)
  turn_few who (Tell told) = event_few who (Tell told)

  turn_are : (who : ℕ) (event : Event) → IsFoundTurn names who event → AreWords (turn_words names who event)
  turn_are who (Take local) found = (refl, (found_is_word names.boxes who found.0, (found_is_word (slot_names names who) local found.1, tt)))
  turn_are who (Retry local) found = (refl, (found_is_word names.boxes who found.0, (found_is_word (slot_names names who) local found.1, tt)))
  turn_are who Shift found = (refl, (found_is_word names.boxes who found, tt))
  turn_are who (Set change) found = event_are who (Set change) found
  turn_are who (Media change) found = event_are who (Media change) found
  turn_are who (Tell told) found = event_are who (Tell told) found

  -- the words of a line are read apart again
  line_is : (line : JournalLine) → IsFoundLine names line → IsLine (line_words names line)
  line_is (Made turn) found = line_of (codes "turn" ∷ turn_words names turn.who turn.event) (omega (arith, turn_few turn.who turn.event)) (refl, turn_are turn.who turn.event found)
  line_is Settled found = line_of (codes "settle" ∷ []) (omega arith) (refl, tt)

-- ---- what a line says

-- where no rule is broken, none after the first is
others_kept : (number : ℕ) (broken : Bool) (others : List (ℕ × Bool)) → least_broken ((number, broken) ∷ others) ≡ None → least_broken others ≡ None
others_kept number true others kept = absurd (let clash : Some number ≡ None = kept in cc)
others_kept number false others kept = kept

-- none after those on bytes
behind_bytes : (line : List ℕ) (rules : List (ℕ × Bool)) → least_broken (byte_rules line ++ rules) ≡ None → least_broken rules ≡ None
behind_bytes line rules kept =
    let strange = list_any (λ byte. not (is_plain byte)) line in
    others_kept STRANGE_BYTE strange rules (others_kept LINE_TOO_LONG (nat_lt LINE_LIMIT (length line)) ((STRANGE_BYTE, strange) ∷ rules) kept)

-- a command that breaks no rule is a turn
sound_turn : (fault : Option ℕ) (command : Option Command) (turn : Turn) → fault ≡ None → command ≡ Some (Stimulus turn) → turn_reading (option_and_then stimulus_of (unbroken fault command)) ≡ Line (Made turn)
sound_turn fault command turn kept says = rw (kept, says) refl

module _ (names : NameLists) (shape : List BoxShapeState) where
  -- the words of a command say its turn
  command_again : (who : ℕ) (event : Event) → IsFoundEvent names who event → IsTrue (is_enabled_by (shape_of shape who) event)
      → turn_reading (option_and_then stimulus_of (unbroken (least_broken (command_rules names shape (event_words names who event))) (command_of names (event_words names who event)))) ≡ Line (Made (record { who = who; event = event }))
  command_again who event found allowed =
      let turn : Turn = record { who = who; event = event } in
      let words = event_words names who event in
      let line = join_with_byte 32 words in
      let read = printed_is_read names shape (Stimulus turn) found allowed in
      let apart = (line_of words (omega (arith, event_few names who event)) (event_are names who event found)).apart in
      let kept : least_broken (byte_rules line ++ command_rules names shape words) ≡ None = subst (λ (some : List (List ℕ)). least_broken (byte_rules line ++ command_rules names shape some) ≡ None) apart read.0 in
      let says : command_of names words ≡ Some (Stimulus turn) = subst (λ (some : List (List ℕ)). command_of names some ≡ Some (Stimulus turn)) apart read.1 in
      sound_turn (least_broken (command_rules names shape words)) (command_of names words) turn (behind_bytes line (command_rules names shape words) kept) says

  -- and so do those of any turn
  turn_again : (who : ℕ) (event : Event) → IsFoundTurn names who event → AllowsTurn shape who event → turn_reading (turn_said names shape (turn_words names who event)) ≡ Line (Made (record { who = who; event = event }))
  turn_again who (Take local) found allowed = rw (found.0.1, found.1.1) refl
  turn_again who (Retry local) found allowed = rw (found.0.1, found.1.1) refl
  turn_again who Shift found allowed = rw found.1 refl
  turn_again who (Set (NewEnd local goal)) found allowed = command_again who (Set (NewEnd local goal)) found allowed
  turn_again who (Set (NewLink local other)) found allowed = command_again who (Set (NewLink local other)) found allowed
  turn_again who (Media (Hear local on)) found allowed = command_again who (Media (Hear local on)) found allowed
  turn_again who (Media (Talk local on)) found allowed = command_again who (Media (Talk local on)) found allowed
  turn_again who (Tell told) found allowed = command_again who (Tell told) found allowed

  -- a line is read as what was printed
  line_again : (line : JournalLine) → IsFoundLine names line → AllowsLine shape line → line_reading names shape (join_with_byte 32 (line_words names line)) ≡ Line line
  line_again (Made turn) found allowed =
      let is = line_is names (Made turn) found in
      rw (is.fits, is.plain, is.apart) (turn_again turn.who turn.event found allowed)
  line_again Settled found allowed = refl

-- ---- the lines of a text

or_parts : (a b : Bool) → (a || b) ≡ false → (a ≡ false) × (b ≡ false)
or_parts true b none = absurd (let clash : true ≡ false = none in cc)
or_parts false b none = (refl, none)

-- a plain byte ends no line
no_end : (byte : ℕ) → not (is_plain byte) ≡ false → is_line_end byte ≡ false
no_end byte plain = grind (arith, common_steps)

no_ends : (bytes : List ℕ) → list_any (λ byte. not (is_plain byte)) bytes ≡ false → AllByRecursion (λ byte. is_line_end byte ≡ false) bytes
no_ends [] plain = tt
no_ends (byte ∷ bytes) plain =
    let parts = or_parts (not (is_plain byte)) (list_any (λ byte. not (is_plain byte)) bytes) plain in
    (no_end byte parts.0, no_ends bytes parts.1)

-- a line with its end in front is one line more
lines_more : (line rest : List ℕ) → list_any (λ byte. not (is_plain byte)) line ≡ false → lines ((line ++ 10 ∷ []) ++ rest) ≡ line ∷ lines rest
lines_more line rest plain =
    let none : All (λ byte. is_line_end byte ≡ false) line = All-from_recursion (λ byte. is_line_end byte ≡ false) line (no_ends line plain) in
    let parts = some_pieces is_line_end rest in
    let here : lines (line ++ 10 ∷ rest) ≡ line ∷ lines rest = rw (slice_split_at is_line_end line 10 rest none refl, parts.2) refl in
    ap lines (append_assoc line (10 ∷ []) rest) ∙ here

module _ (names : NameLists) (shape : List BoxShapeState) where
  -- each line of the text says the line of the journal
  readings_again : (journal : List JournalLine) → AllByRecursion (IsFoundLine names) journal → AllByRecursion (AllowsLine shape) journal → readings names shape (print_journal names journal) ≡ map Line journal
  readings_again [] found allowed = refl
  readings_again (line ∷ journal) found allowed =
      let cut = lines_more (join_with_byte 32 (line_words names line)) (print_journal names journal) (line_is names line found.0).plain in
      ap (map (line_reading names shape)) cut ∙ ap₂ (λ (first : LineReading) (others : List LineReading). first ∷ others) (line_again names shape line found.0 allowed.0) (readings_again journal found.1 allowed.1)

all_said : (journal : List JournalLine) → said (map Line journal) ≡ journal
all_said [] = refl
all_said (line ∷ journal) = said-more (Line line) (map Line journal) refl ∙ ap (λ (more : List JournalLine). line ∷ more) (all_said journal)

none_is_bad : (journal : List JournalLine) → list_any is_bad (map Line journal) ≡ false
none_is_bad [] = refl
none_is_bad (line ∷ journal) = none_is_bad journal

pub journals_are_read : JournalsAreRead
journals_are_read names shape journal found allowed =
    let again = readings_again names shape journal (recursion_from_All (IsFoundLine names) journal found) (recursion_from_All (AllowsLine shape) journal allowed) in
    (ap said again ∙ all_said journal, ap (list_any is_bad) again ∙ none_is_bad journal)
