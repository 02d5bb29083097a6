-- Laws of programs' lines: a line that breaks no rule keeps that the program fits the slots of its box, and a finished
-- one is a program for them.
use Rattle.std.specs.Prelude.{ℕ, ◌≡◌, ◌<◌, Bool, false, List, Some, None, drop, length}
use Rattle.mc_signal.specs.declared.Medium.{Medium}
use Rattle.mc_text.specs.NameLists.{NameLists}
use Rattle.mc_box.specs.BoxShapes.{BoxShapeState, shape_of}
use Rattle.mc_script.specs.Places.{Fits}
use Rattle.mc_script.specs.Rules.{least_broken}
use Rattle.mc_program_lines.specs.Finished.{FitsMedia, IsProgramFor, program_of}
use Rattle.mc_program_lines.specs.Programs.{BlockState, block_goal_after, block_goal_rules, block_link_after, block_link_rules, block_when_after, block_when_rules, is_unfinished_block, new_block, new_part_rules, new_program_rules, with_new_part}

-- a program fits the slots of its box
abbrev pub FitsIn : List BoxShapeState → BlockState → Type 0
FitsIn shape block = FitsMedia (shape_of shape block.who).media block

-- as `prog` leaves it
abbrev pub NewProgramsFit : Type 0
NewProgramsFit =
    (names : NameLists) (shape : List BoxShapeState) (late unfinished : Bool) (words : List (List ℕ)) (who : ℕ)
    → least_broken (new_program_rules names shape late unfinished words) ≡ None
    → FitsIn shape (new_block who (drop 1 words))

-- after `state`
abbrev pub NewPartsFit : Type 0
NewPartsFit =
    (names : NameLists) (shape : List BoxShapeState) (late : Bool) (block : BlockState) (words : List (List ℕ))
    → Fits names shape → block.who < length names.boxes
    → FitsIn shape block → least_broken (new_part_rules late (Some block) words) ≡ None
    → FitsIn shape (with_new_part names block)

-- after `goal`
abbrev pub GoalLinesFit : Type 0
GoalLinesFit =
    (names : NameLists) (shape : List BoxShapeState) (block after : BlockState) (words : List (List ℕ))
    → Fits names shape → block.who < length names.boxes
    → FitsIn shape block → least_broken (block_goal_rules names block words) ≡ None
    → block_goal_after names block words ≡ Some after → FitsIn shape after

-- after `link`
abbrev pub LinkLinesFit : Type 0
LinkLinesFit =
    (names : NameLists) (shape : List BoxShapeState) (block after : BlockState) (words : List (List ℕ))
    → Fits names shape → block.who < length names.boxes
    → FitsIn shape block → least_broken (block_link_rules names shape block words) ≡ None
    → block_link_after names block words ≡ Some after → FitsIn shape after

-- after `when`
abbrev pub WhenLinesFit : Type 0
WhenLinesFit =
    (names : NameLists) (shape : List BoxShapeState) (block : BlockState) (after : NameLists × BlockState)
    (words : List (List ℕ))
    → Fits names shape → block.who < length names.boxes
    → FitsIn shape block → least_broken (block_when_rules names block words) ≡ None
    → block_when_after names block words ≡ Some after → FitsIn shape after.1

-- what isn't unfinished is a program
abbrev pub FinishedBlocksFit : Type 0
FinishedBlocksFit =
    (media : List Medium) (block : BlockState) → FitsMedia media block → is_unfinished_block (Some block) ≡ false
    → IsProgramFor media (program_of block)
