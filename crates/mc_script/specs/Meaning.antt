-- The command that a line spells.
use Rattle.std.specs.Prelude.{ℕ, ◌≡◌, ◌++◌, Bool, true, false, List, [], ◌∷◌, Option, Some, None, OnOk, Result, Ok, Err, codes, drop, slice_index_or}
use Rattle.std.specs.List.{join_with_byte, slice_get}
use Rattle.std.specs.Option.{option_and_then, option_map}
use Rattle.mc_slot.specs.declared.Goal.{Goal}
use Rattle.mc_slot.specs.declared.Goal.TheVariants.{Open as ToOpen, Close as ToClose, Hold as ToHold}
use Rattle.mc_text.specs.Lines.{words}
use Rattle.mc_text.specs.NameLists.{NameLists, place_of, slot_names}
use Rattle.mc_box.specs.BoxShapes.{BoxShapeState}
use Rattle.mc_box.specs.declared.event.Change.TheVariants.{End as NewEnd, Link as NewLink}
use Rattle.mc_box.specs.declared.event.Event.{Event}
use Rattle.mc_box.specs.declared.event.Event.TheVariants.{Set, Media, Tell}
use Rattle.mc_box.specs.declared.event.MediaChange.TheVariants.{Hear, Talk}
use Rattle.mc_script.specs.Places.{box_named, spelt_value, slot_named}
use Rattle.mc_script.specs.Rules.{byte_rules, command_rules, command_word, spelt_goal, least_broken, spelt_switch}
use Rattle.mc_script.specs.declared.command.Command.{Command}
use Rattle.mc_script.specs.declared.command.Command.TheVariants.{Stimulus, Settle}
use Rattle.mc_script.specs.declared.command.LineFault.{LineFault}
use Rattle.mc_script.specs.declared.keyword.CommandWord.{CommandWord}
use Rattle.mc_script.specs.declared.keyword.CommandWord.TheVariants as word

-- `BOX SLOT`, and an event of it
abbrev pub at_slot : NameLists → List (List ℕ) → (ℕ → Option Event) → Option Command
at_slot names words event =
    option_and_then (λ who. option_and_then (λ local. option_map (λ it. Stimulus (record { who = who; event = it }))
    (event local)) (slot_named names (Some who) (slice_get words 1)))
    (box_named names (slice_get words 0))

-- the command that the words after the first spell
abbrev pub command_by : NameLists → Option CommandWord → List (List ℕ) → Option Command
command_by names (Some word.Set) words =
    at_slot names words (λ local. option_map (λ goal. Set (NewEnd local goal))
    (spelt_value spelt_goal (slice_get words 2)))
command_by names (Some word.Link) words =
    at_slot names words (λ local. option_map (λ other. Set (NewLink local other))
    (slot_named names (box_named names (slice_get words 0)) (slice_get words 2)))
command_by names (Some word.Hear) words =
    at_slot names words (λ local. option_map (λ on. Media (Hear local on))
    (spelt_value spelt_switch (slice_get words 2)))
command_by names (Some word.Talk) words =
    at_slot names words (λ local. option_map (λ on. Media (Talk local on))
    (spelt_value spelt_switch (slice_get words 2)))
command_by names (Some word.Tell) words =
    option_and_then (λ who. option_map (λ told. Stimulus (record { who = who; event = Tell told }))
    (spelt_value (place_of names.told) (slice_get words 1))) (box_named names (slice_get words 0))
command_by names (Some word.Settle) words = Some Settle
command_by names None words = None

abbrev pub command_of : NameLists → List (List ℕ) → Option Command
command_of names words = command_by names (option_and_then command_word (slice_get words 0)) (drop 1 words)

-- the least number of the rules that a command's line breaks, but for the two that want the whole text
abbrev pub command_fault : NameLists → List BoxShapeState → List ℕ → Option ℕ
command_fault names shape line = least_broken (byte_rules line ++ command_rules names shape (words line))

-- a line is refused by its fault, and else it is read as what it spells
abbrev pub ReadsAs : {X : Type 0} → Result X LineFault → Option ℕ → Option X → Type 0
ReadsAs (Ok x) fault meaning = (fault ≡ None) × (meaning ≡ Some x)
ReadsAs (Err e) fault meaning = fault ≡ Some e.number

-- the line of a command is refused by the least of these rules that it breaks, and else it is read as what its words
-- spell
abbrev pub ReadsCommand : NameLists → CommandWord → List (ℕ × Bool) → List (List ℕ) → Result Command LineFault → Type 0
ReadsCommand names kind rules words result = ReadsAs result (least_broken rules) (command_by names (Some kind) words)

-- ---- the spelling of a command

abbrev pub goal_word : Goal → List ℕ
goal_word ToOpen = codes "open"
goal_word ToClose = codes "close"
goal_word ToHold = codes "hold"

abbrev pub switch_word : Bool → List ℕ
switch_word true = codes "on"
switch_word false = codes "off"

abbrev pub box_name : NameLists → ℕ → List ℕ
box_name names who = slice_index_or names.boxes who []

abbrev pub slot_name : NameLists → ℕ → ℕ → List ℕ
slot_name names who local = slice_index_or (slot_names names who) local []

-- the words of a command; an event that is no command has none
abbrev pub event_words : NameLists → ℕ → Event → List (List ℕ)
event_words names who (Set (NewEnd local goal)) =
    codes "set" ∷ box_name names who ∷ slot_name names who local ∷ goal_word goal ∷ []
event_words names who (Set (NewLink local other)) =
    codes "link" ∷ box_name names who ∷ slot_name names who local ∷ slot_name names who other ∷ []
event_words names who (Media (Hear local on)) =
    codes "hear" ∷ box_name names who ∷ slot_name names who local ∷ switch_word on ∷ []
event_words names who (Media (Talk local on)) =
    codes "talk" ∷ box_name names who ∷ slot_name names who local ∷ switch_word on ∷ []
event_words names who (Tell told) = codes "tell" ∷ box_name names who ∷ slice_index_or names.told told [] ∷ []
event_words names who event = []

abbrev pub spelt : NameLists → Command → List (List ℕ)
spelt names (Stimulus turn) = event_words names turn.who turn.event
spelt names Settle = codes "settle" ∷ []

-- these words are appended, with single spaces, unless memory runs out
abbrev pub Puts : {E : Type 0} → Result (Unit {0}) E → (before after : List ℕ) → List (List ℕ) → Type 0
Puts result before after words = OnOk result (after ≡ before ++ join_with_byte 32 words)

-- with single spaces
abbrev pub spelling : NameLists → Command → List ℕ
spelling names command = join_with_byte 32 (spelt names command)
