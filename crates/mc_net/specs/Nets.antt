-- The network that a text declares.
use Rattle.std.specs.Prelude.{◌≡◌, ◌<◌, ℕ, List, [], ◌∷◌, None, length, map}
use Rattle.std.specs.List.{All}
use Rattle.mc_signal.specs.Choice.{codecs_of}
use Rattle.mc_text.specs.NameLists.{NameLists, slot_names}
use Rattle.mc_box.specs.BoxShapes.{BoxShapeState}
use Rattle.mc_model.specs.Worlds.{WorldState, box_at}
use Rattle.mc_rule.specs.Programs.{IsProgram}
use Rattle.mc_plan.specs.Layouts.{program_fault, with_program}
use Rattle.mc_plan.specs.Plans.{PlanState, world_of}
use Rattle.mc_program_lines.specs.Finished.{program_of}
use Rattle.mc_program_lines.specs.Programs.{BlockState}
use Rattle.mc_box.specs.declared.event.Turn.{Turn}
pub use Rattle.mc_script.specs.Batches.{batch_turns}
use Rattle.mc_script.specs.declared.command.Command.{Command}
use Rattle.mc_script.specs.declared.command.Command.TheVariants.{Stimulus, Settle}
use Rattle.mc_script.specs.Places.{Fits}
use Rattle.mc_script.specs.Printed.{Allows, HaveNames, IsNamed}
use Rattle.mc_lines.specs.BoxLines.{box_seen}
use Rattle.mc_lines.specs.Rules.{shapes}
use Rattle.mc_lines.specs.SoFar.{Declared}
use Rattle.mc_lines.specs.declared.tail.Tail.{Tail}
use Rattle.mc_net.specs.Texts.{Says, text_end}
use Rattle.mc_net.specs.declared.net.Net.{Net}
use Rattle.mc_lines.specs.declared.reader.Declarations.{Declarations}

-- ---- batches

-- a turn before those of the next batch, where there is one
abbrev pub before_next : Turn → List (List Turn) → List (List Turn)
before_next turn [] = []
before_next turn (batch ∷ batches) = (turn ∷ batch) ∷ batches

-- one batch for each settle, with the commands before it; those after the last settle are in none
abbrev pub batches_of : List Command → List (List Turn)
batches_of [] = []
batches_of (Stimulus turn ∷ commands) = before_next turn (batches_of commands)
batches_of (Settle ∷ commands) = [] ∷ batches_of commands

-- ---- the first world

-- each of these blocks gives its box its program
abbrev pub with_programs : WorldState → List BlockState → WorldState
with_programs first [] = first
with_programs first (block ∷ blocks) = with_programs (with_program first block.who (program_of block)) blocks

-- one after the other, each of these blocks may
abbrev pub MayHavePrograms : WorldState → List BlockState → Type 0
MayHavePrograms first [] = Unit {0}
MayHavePrograms first (block ∷ blocks) =
    IsProgram (program_of block) × (program_fault first block.who (program_of block) ≡ None)
    × MayHavePrograms (with_program first block.who (program_of block)) blocks

-- the network is of these parts: its world is the first one of the plan, with their programs
pub record IsMadeOf (parts : Declarations) (place : ℕ) (net : Net) : Type 0 where
  pub world : net.world ≡ with_programs (world_of parts.plan) parts.blocks.items
  pub names : net.names ≡ parts.names
  pub shape : net.shape ≡ parts.shape
  pub batches : map batch_turns net.batches.items ≡ batches_of parts.commands.items
  pub rest : net.rest ≡ place

-- the first world of what was declared: that of a plan with the declared boxes and channels, in which each program is
-- the declared one
pub record IsFirstWorld (d : Declared) (first : WorldState) : Type 0 where
  pub plan : PlanState
  pub boxes : map box_seen plan.boxes ≡ d.boxes
  pub channels : plan.channels ≡ d.channels
  pub world : first ≡ with_programs (world_of plan) d.blocks

-- no program was declared
abbrev pub IsUnprogrammed : Declared → Type 0
IsUnprogrammed d = d.blocks ≡ []

-- the text is in the grammar, and this is the network that it declares
pub record DeclaresNet (tail : Tail) (text : List ℕ) (net : Net) : Type 0 where
  pub declared : Declared
  pub says : Says tail text declared
  pub names : net.names ≡ declared.names
  pub shape : net.shape ≡ shapes declared
  pub world : IsFirstWorld declared net.world
  pub batches : map batch_turns net.batches.items ≡ batches_of declared.commands
  pub rest : net.rest ≡ text_end tail text

-- the text is in the grammar, and these are the blocks of programs that it declares
pub record DeclaresBlocks (tail : Tail) (text : List ℕ) (given : List BlockState) : Type 0 where
  pub declared : Declared
  pub says : Says tail text declared
  pub blocks : given ≡ declared.blocks

-- ---- what every such network has

-- all of a world has names: its boxes, their slots, and the codecs that they receive
pub record NamesAll (names : NameLists) (world : WorldState) : Type 0 where
  pub boxes : length names.boxes ≡ length world.boxes
  pub slots : (who : ℕ) → who < length world.boxes → length (slot_names names who) ≡ length (box_at world who).slots
  pub codecs : (who : ℕ) → All (λ codec. codec < length names.codecs) (codecs_of (box_at world who).receives)

-- a turn that a command makes: its box, slots and word have names, and the shape of the box allows it
abbrev pub IsSayable : NameLists → List BoxShapeState → Turn → Type 0
IsSayable names shape turn = IsNamed names (Stimulus turn) × Allows shape (Stimulus turn)

-- names are names, none of them twice, and the shapes fit them; all of the world has them; and so has what each command
-- is about, which shapes allow
pub record IsWellNamed (net : Net) : Type 0 where
  pub names : HaveNames net.names
  pub fits : Fits net.names net.shape
  pub world : NamesAll net.names net.world
  pub commands : All (All (IsSayable net.names net.shape)) (map batch_turns net.batches.items)
