-- The text of a journal, and the lines that can be printed.
use Rattle.std.specs.Prelude.{ℕ, ◌<◌, List, [], ◌∷◌, ◌++◌, codes, length, IsTrue}
use Rattle.std.specs.List.{flat_map, join_with_byte}
use Rattle.mc_text.specs.NameLists.{NameLists}
use Rattle.mc_box.specs.BoxShapes.{BoxShapeState, is_enabled_by, shape_of}
use Rattle.mc_box.specs.declared.event.Event.{Event}
use Rattle.mc_box.specs.declared.event.Event.TheVariants.{Take, Retry, Shift}
use Rattle.mc_script.specs.Meaning.{box_name, event_words, slot_name}
use Rattle.mc_script.specs.Printed.{IsFound, IsFoundEvent, IsFoundSlot, IsNamedEvent, IsSlot}
use Rattle.mc_script.specs.declared.command.JournalLine.{JournalLine}
use Rattle.mc_script.specs.declared.command.JournalLine.TheVariants.{Turn as Made, Settled}

-- the words of a turn, after `turn`; those of a command are its own
abbrev pub turn_words : NameLists → ℕ → Event → List (List ℕ)
turn_words names who (Take local) = codes "take" ∷ box_name names who ∷ slot_name names who local ∷ []
turn_words names who (Retry local) = codes "retry" ∷ box_name names who ∷ slot_name names who local ∷ []
turn_words names who Shift = codes "shift" ∷ box_name names who ∷ []
turn_words names who event = event_words names who event

abbrev pub line_words : NameLists → JournalLine → List (List ℕ)
line_words names (Made turn) = codes "turn" ∷ turn_words names turn.who turn.event
line_words names Settled = codes "settle" ∷ []

-- the words of a line with single spaces between them, and a line end
abbrev pub line_text : NameLists → JournalLine → List ℕ
line_text names line = join_with_byte 32 (line_words names line) ++ 10 ∷ []

abbrev pub print_journal : NameLists → List JournalLine → List ℕ
print_journal names lines = flat_map (line_text names) lines

-- ---- lines that can be printed

-- a turn whose box, slots and word there are
abbrev pub IsNamedTurn : NameLists → ℕ → Event → Type 0
IsNamedTurn names who (Take local) = IsSlot names who local
IsNamedTurn names who (Retry local) = IsSlot names who local
IsNamedTurn names who Shift = who < length names.boxes
IsNamedTurn names who event = IsNamedEvent names who event

abbrev pub IsNamedLine : NameLists → JournalLine → Type 0
IsNamedLine names (Made turn) = IsNamedTurn names turn.who turn.event
IsNamedLine names Settled = Unit {0}

-- a turn whose box, slots and word are found by their names
abbrev pub IsFoundTurn : NameLists → ℕ → Event → Type 0
IsFoundTurn names who (Take local) = IsFoundSlot names who local
IsFoundTurn names who (Retry local) = IsFoundSlot names who local
IsFoundTurn names who Shift = IsFound names.boxes who
IsFoundTurn names who event = IsFoundEvent names who event

abbrev pub IsFoundLine : NameLists → JournalLine → Type 0
IsFoundLine names (Made turn) = IsFoundTurn names turn.who turn.event
IsFoundLine names Settled = Unit {0}

-- if the turn is a command, the shape of the box enables it
abbrev pub AllowsTurn : List BoxShapeState → ℕ → Event → Type 0
AllowsTurn shape who (Take local) = Unit {0}
AllowsTurn shape who (Retry local) = Unit {0}
AllowsTurn shape who Shift = Unit {0}
AllowsTurn shape who event = IsTrue (is_enabled_by (shape_of shape who) event)

abbrev pub AllowsLine : List BoxShapeState → JournalLine → Type 0
AllowsLine shape (Made turn) = AllowsTurn shape turn.who turn.event
AllowsLine shape Settled = Unit {0}
