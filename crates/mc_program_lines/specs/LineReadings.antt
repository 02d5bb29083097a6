-- What reading a line of a program answers, by the kind of line: the program is as the line says, or the line is
-- refused by the least number of the rules that it breaks. The words are those after the first.
use Rattle.std.specs.Prelude.{ℕ, ◌≡◌, Bool, List, Option, Some, Result}
use Rattle.std.specs.List.{slice_get}
use Rattle.std.specs.Option.{option_map}
use Rattle.mc_text.specs.NameLists.{NameLists}
use Rattle.mc_box.specs.BoxShapes.{BoxShapeState}
use Rattle.mc_script.specs.Meaning.{ReadsAs}
use Rattle.mc_script.specs.Places.{box_named}
use Rattle.mc_script.specs.Rules.{least_broken}
use Rattle.mc_script.specs.declared.command.LineFault.{LineFault}
use Rattle.mc_program_lines.specs.Programs.{BlockState, PartState, block_goal_after, block_goal_rules, block_link_after, block_link_rules, block_when_after, block_when_rules, goal_rules, is_transition, is_unfinished_block, new_part_rules, new_program_rules, part_goal_after, part_link_after, part_link_rules, part_when_after, told_after, when_is_rules, when_rules, when_told_rules, with_transition}
use Rattle.mc_program_lines.specs.Readings.{Declares, Makes}
use Rattle.mc_program_lines.specs.declared.fault.ReadFault.{ReadFault}
use Rattle.mc_rule.specs.declared.Rule.{Rule}

-- ---- the lines of a part, in a program of a box

-- `goal SLOT GOAL`
abbrev pub ReadsGoal : NameLists → ℕ → PartState → List (List ℕ) → Result (Unit {0}) LineFault → PartState → Type 0
ReadsGoal names who old words result new =
    Makes result new (least_broken (goal_rules names who old words)) (part_goal_after names who old words)

-- `link SLOT SLOT`
abbrev pub ReadsLink : NameLists → List BoxShapeState → ℕ → PartState → List (List ℕ) → Result (Unit {0}) LineFault
    → PartState → Type 0
ReadsLink names shape who old words result new =
    Makes result new (least_broken (part_link_rules names shape who old words)) (part_link_after names who old words)

-- `when ..`, with the names after it
abbrev pub ReadsWhen : NameLists → ℕ → List (List ℕ) → PartState → List (List ℕ) → Result (Unit {0}) ReadFault
    → NameLists × PartState → Type 0
ReadsWhen names who states old words result new =
    Declares result new (least_broken (when_rules names who states old words))
    (part_when_after names who states old words)

-- `when is SLOT STATE TARGET`, after `is`
abbrev pub ReadsWhenIs : NameLists → ℕ → List (List ℕ) → PartState → List (List ℕ) → Result (Unit {0}) ReadFault
    → PartState → Type 0
ReadsWhenIs names who states old words result new =
    Declares result new (least_broken (when_is_rules names who states old words))
    (option_map (with_transition old) (is_transition names who states words))

-- `when told WORD TARGET`, after `told`, with the names after it
abbrev pub ReadsWhenTold : NameLists → List (List ℕ) → PartState → List (List ℕ) → Result (Unit {0}) ReadFault
    → NameLists × PartState → Type 0
ReadsWhenTold names states old words result new =
    Declares result new (least_broken (when_told_rules names states old words)) (told_after names states old words)

-- the transition of `when is ..`, after `is`
abbrev pub SpellsTransition : NameLists → ℕ → List (List ℕ) → PartState → List (List ℕ) → Result Rule LineFault → Type 0
SpellsTransition names who states part words result =
    ReadsAs result (least_broken (when_is_rules names who states part words)) (is_transition names who states words)

-- the least rule that `when told ..` breaks, after `told`
abbrev pub BreaksWhenTold : NameLists → List (List ℕ) → PartState → List (List ℕ) → LineFault → Type 0
BreaksWhenTold names states part words fault =
    least_broken (when_told_rules names states part words) ≡ Some fault.number

-- ---- the lines of a program

-- `goal SLOT GOAL`
abbrev pub BlockReadsGoal : NameLists → BlockState → List (List ℕ) → Result (Unit {0}) LineFault → BlockState → Type 0
BlockReadsGoal names old words result new =
    Makes result new (least_broken (block_goal_rules names old words)) (block_goal_after names old words)

-- `link SLOT SLOT`
abbrev pub BlockReadsLink : NameLists → List BoxShapeState → BlockState → List (List ℕ) → Result (Unit {0}) LineFault
    → BlockState → Type 0
BlockReadsLink names shape old words result new =
    Makes result new (least_broken (block_link_rules names shape old words)) (block_link_after names old words)

-- `when ..`, with the names after it
abbrev pub BlockReadsWhen : NameLists → BlockState → List (List ℕ) → Result (Unit {0}) ReadFault
    → NameLists × BlockState → Type 0
BlockReadsWhen names old words result new =
    Declares result new (least_broken (block_when_rules names old words)) (block_when_after names old words)

-- the box of `prog BOX STATE STATE ..`, where the program before it is this one
abbrev pub SpellsProgram : NameLists → List BoxShapeState → Bool → Option BlockState → List (List ℕ)
    → Result ℕ LineFault → Type 0
SpellsProgram names shape late block words result =
    ReadsAs result (least_broken (new_program_rules names shape late (is_unfinished_block block) words))
    (box_named names (slice_get words 0))

-- `state NAME`, in this program
abbrev pub SpellsState : Bool → Option BlockState → List (List ℕ) → Result (Unit {0}) LineFault → Type 0
SpellsState late block words result = ReadsAs result (least_broken (new_part_rules late block words)) (Some tt)
