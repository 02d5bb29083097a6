-- Commands that can be printed, and that what is printed is read again.
use Rattle.std.specs.Prelude.{ℕ, ◌≡◌, ◌<◌, List, [], length, None, Some, IsTrue, slice_index_or}
use Rattle.mc_text.specs.Lines.{words}
use Rattle.mc_text.specs.NameLists.{NameLists, AreNames, place_of, slot_names}
use Rattle.mc_text.specs.Spelling.{is_name}
use Rattle.mc_box.specs.BoxShapes.{BoxShapeState, is_enabled_by, shape_of}
use Rattle.mc_box.specs.declared.event.Change.TheVariants.{End as NewEnd, Link as NewLink}
use Rattle.mc_box.specs.declared.event.Event.{Event}
use Rattle.mc_box.specs.declared.event.Event.TheVariants.{Set, Media, Tell}
use Rattle.mc_box.specs.declared.event.MediaChange.TheVariants.{Hear, Talk}
use Rattle.mc_script.specs.Meaning.{command_of, command_fault, spelling}
use Rattle.mc_script.specs.declared.command.Command.{Command}
use Rattle.mc_script.specs.declared.command.Command.TheVariants.{Stimulus, Settle}

-- a slot of a box
abbrev pub IsSlot : NameLists → ℕ → ℕ → Type 0
IsSlot names who local = (who < length names.boxes) × (local < length (slot_names names who))

-- an event of a command, whose box, slots and word there are
abbrev pub IsNamedEvent : NameLists → ℕ → Event → Type 0
IsNamedEvent names who (Set (NewEnd local goal)) = IsSlot names who local
IsNamedEvent names who (Set (NewLink local other)) = IsSlot names who local × IsSlot names who other
IsNamedEvent names who (Media (Hear local on)) = IsSlot names who local
IsNamedEvent names who (Media (Talk local on)) = IsSlot names who local
IsNamedEvent names who (Tell told) = (who < length names.boxes) × (told < length names.told)
IsNamedEvent names who event = ⊥

abbrev pub IsNamed : NameLists → Command → Type 0
IsNamed names (Stimulus turn) = IsNamedEvent names turn.who turn.event
IsNamed names Settle = Unit {0}

-- the word that has a number is a name, and is found as that number
abbrev pub IsFound : List (List ℕ) → ℕ → Type 0
IsFound names number =
    IsTrue (is_name (slice_index_or names number [])) × (place_of names (slice_index_or names number []) ≡ Some number)

abbrev pub IsFoundSlot : NameLists → ℕ → ℕ → Type 0
IsFoundSlot names who local = IsFound names.boxes who × IsFound (slot_names names who) local

-- an event of a command, whose box, slots and word are found by their names
abbrev pub IsFoundEvent : NameLists → ℕ → Event → Type 0
IsFoundEvent names who (Set (NewEnd local goal)) = IsFoundSlot names who local
IsFoundEvent names who (Set (NewLink local other)) = IsFoundSlot names who local × IsFoundSlot names who other
IsFoundEvent names who (Media (Hear local on)) = IsFoundSlot names who local
IsFoundEvent names who (Media (Talk local on)) = IsFoundSlot names who local
IsFoundEvent names who (Tell told) = IsFound names.boxes who × IsFound names.told told
IsFoundEvent names who event = ⊥

abbrev pub IsFoundCommand : NameLists → Command → Type 0
IsFoundCommand names (Stimulus turn) = IsFoundEvent names turn.who turn.event
IsFoundCommand names Settle = Unit {0}

-- the shape of the box enables the command
abbrev pub Allows : List BoxShapeState → Command → Type 0
Allows shape (Stimulus turn) = IsTrue (is_enabled_by (shape_of shape turn.who) turn.event)
Allows shape Settle = Unit {0}

-- ---- laws

-- the line of a command breaks no rule, and spells that command
abbrev pub IsRead : NameLists → List BoxShapeState → Command → Type 0
IsRead names shape command =
    (command_fault names shape (spelling names command) ≡ None)
    × (command_of names (words (spelling names command)) ≡ Some command)

-- what is printed is read as the same command
abbrev pub PrintedIsRead : Type 0
PrintedIsRead =
    (names : NameLists) (shape : List BoxShapeState) (command : Command) → IsFoundCommand names command
    → Allows shape command → IsRead names shape command

-- boxes, slots and told words have names, and in none of these lists does a name stand twice
pub record HaveNames (names : NameLists) : Type 0 where
  pub of_boxes : AreNames names.boxes
  pub of_slots : (who : ℕ) → who < length names.boxes → AreNames (slot_names names who)
  pub of_told : AreNames names.told

-- where names are names, each command that can be printed is found again
abbrev pub NamedIsFound : Type 0
NamedIsFound =
    (names : NameLists) (command : Command) → HaveNames names → IsNamed names command → IsFoundCommand names command
