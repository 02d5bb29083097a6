-- What the lines of a journal's text say.
use Rattle.std.specs.Prelude.{ℕ, Bool, true, false, List, [], ◌∷◌, Option, Some, None, codes, drop, map, if◌then◌else◌}
use Rattle.std.specs.List.{before_first, flat_map, list_any, slice_get}
use Rattle.std.specs.Option.{is_some, option_and_then, option_map}
use Rattle.std.specs.Str.{bytes_eq}
use Rattle.mc_text.specs.Lines.{lines, words}
use Rattle.mc_text.specs.NameLists.{NameLists}
use Rattle.mc_box.specs.BoxShapes.{BoxShapeState}
use Rattle.mc_box.specs.declared.event.Event.TheVariants.{Take, Retry, Shift}
use Rattle.mc_box.specs.declared.event.Turn.{Turn}
use Rattle.mc_script.specs.Meaning.{command_by}
use Rattle.mc_script.specs.Places.{box_named, slot_named}
use Rattle.mc_script.specs.Rules.{begins_hash, byte_rules, command_word, kind_rules, least_broken}
use Rattle.mc_script.specs.declared.command.Command.{Command}
use Rattle.mc_script.specs.declared.command.Command.TheVariants.{Stimulus, Settle}
use Rattle.mc_script.specs.declared.command.JournalLine.{JournalLine}
use Rattle.mc_script.specs.declared.command.JournalLine.TheVariants.{Turn as Made, Settled}
use Rattle.mc_script.specs.declared.keyword.CommandWord.{CommandWord}
use Rattle.mc_journal.specs.declared.reading.LineReading.{LineReading}
use Rattle.mc_journal.specs.declared.reading.LineReading.TheVariants.{Skipped, Line, Bad}
use Rattle.mc_journal.specs.declared.turn.SlotPlace.{SlotPlace}

-- ---- turns, by the words after `turn`

-- `BOX SLOT`, and no word after them
abbrev pub slot_place : NameLists → List (List ℕ) → Option SlotPlace
slot_place names words =
    if is_some (slice_get words 2) then None
    else option_and_then (λ who. option_map (λ local. record { who = who; local = local })
    (slot_named names (Some who) (slice_get words 1))) (box_named names (slice_get words 0))

abbrev pub spelt_take : NameLists → List (List ℕ) → Option Turn
spelt_take names words =
    option_map (λ (place : SlotPlace). record { who = place.who; event = Take place.local }) (slot_place names words)

abbrev pub spelt_retry : NameLists → List (List ℕ) → Option Turn
spelt_retry names words =
    option_map (λ (place : SlotPlace). record { who = place.who; event = Retry place.local }) (slot_place names words)

-- `BOX`, and no word after it
abbrev pub spelt_shift : NameLists → List (List ℕ) → Option Turn
spelt_shift names words =
    if is_some (slice_get words 1) then None
    else option_map (λ who. record { who = who; event = Shift }) (box_named names (slice_get words 0))

-- what is said, where no rule is broken
abbrev pub unbroken : {X : Type 0} → Option ℕ → Option X → Option X
unbroken None meaning = meaning
unbroken (Some number) meaning = None

-- the command that the words after the first spell, where they break no rule
abbrev pub sound_command : NameLists → List BoxShapeState → CommandWord → List (List ℕ) → Option Command
sound_command names shape kind words =
    unbroken (least_broken (kind_rules names shape (Some kind) words)) (command_by names (Some kind) words)

-- a settle is no turn
abbrev pub stimulus_of : Command → Option Turn
stimulus_of (Stimulus turn) = Some turn
stimulus_of Settle = None

abbrev pub command_turn : NameLists → List BoxShapeState → CommandWord → List (List ℕ) → Option Turn
command_turn names shape kind words = option_and_then stimulus_of (sound_command names shape kind words)

-- the turn that a word opens, by those after it
abbrev pub made_turn : NameLists → List BoxShapeState → List ℕ → List (List ℕ) → Option Turn
made_turn names shape first others =
    if bytes_eq first (codes "take") then spelt_take names others
    else (if bytes_eq first (codes "retry") then spelt_retry names others
    else (if bytes_eq first (codes "shift") then spelt_shift names others
    else option_and_then (λ kind. command_turn names shape kind others) (command_word first)))

abbrev pub turn_said : NameLists → List BoxShapeState → List (List ℕ) → Option Turn
turn_said names shape words = option_and_then (λ first. made_turn names shape first (drop 1 words)) (slice_get words 0)

-- ---- lines

-- what doesn't say a turn is no line of a journal
abbrev pub turn_reading : Option Turn → LineReading
turn_reading None = Bad
turn_reading (Some turn) = Line (Made turn)

-- `settle`, and no word after it
abbrev pub settle_reading : List (List ℕ) → LineReading
settle_reading words = if is_some (slice_get words 0) then Bad else Line Settled

-- a line that this word opens, by the words after it
abbrev pub opened_reading : NameLists → List BoxShapeState → List ℕ → List (List ℕ) → LineReading
opened_reading names shape first others =
    if bytes_eq first (codes "turn") then turn_reading (turn_said names shape others)
    else (if bytes_eq first (codes "settle") then settle_reading others
    else Bad)

-- a blank line has no first word, and that of a comment begins with #
abbrev pub first_reading : NameLists → List BoxShapeState → Option (List ℕ) → List (List ℕ) → LineReading
first_reading names shape None others = Skipped
first_reading names shape (Some first) others =
    if begins_hash first then Skipped else opened_reading names shape first others

abbrev pub words_reading : NameLists → List BoxShapeState → List (List ℕ) → LineReading
words_reading names shape words = first_reading names shape (slice_get words 0) (drop 1 words)

-- the rules on bytes hold for comments, too
abbrev pub line_reading : NameLists → List BoxShapeState → List ℕ → LineReading
line_reading names shape line =
    if is_some (least_broken (byte_rules line)) then Bad else words_reading names shape (words line)

-- ---- whole texts

abbrev pub is_bad : LineReading → Bool
is_bad Skipped = false
is_bad (Line line) = false
is_bad Bad = true

-- the line of the journal that is said, if there is one
abbrev pub line_in : LineReading → List JournalLine
line_in Skipped = []
line_in (Line line) = line ∷ []
line_in Bad = []

abbrev pub readings : NameLists → List BoxShapeState → List ℕ → List LineReading
readings names shape text = map (line_reading names shape) (lines text)

-- the lines of the journal, up to a line of the text that is none
abbrev pub journal_lines : NameLists → List BoxShapeState → List ℕ → List JournalLine
journal_lines names shape text = flat_map line_in (before_first is_bad (readings names shape text))

-- some line of the text is none
abbrev pub has_bad_line : NameLists → List BoxShapeState → List ℕ → Bool
has_bad_line names shape text = list_any is_bad (readings names shape text)
