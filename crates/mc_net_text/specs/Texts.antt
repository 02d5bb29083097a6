-- What a text of a network says, and why a network has none.
use Rattle.std.specs.Prelude.{◌≡◌, ℕ, List, [], map}
use Rattle.mc_text.specs.NameLists.{NameLists}
use Rattle.mc_model.specs.Worlds.{ChannelState}
use Rattle.mc_plan.specs.Plans.{PlanState}
use Rattle.mc_script.specs.declared.command.Command.{Command}
use Rattle.mc_lines.specs.BoxLines.{box_seen}
use Rattle.mc_lines.specs.SoFar.{Declared, DeclaredBox}
use Rattle.mc_lines.specs.declared.tail.Tail.TheVariants.{Nothing}
use Rattle.mc_program_lines.specs.Programs.{BlockState}
use Rattle.mc_net.specs.Texts.{Says}
use Rattle.mc_net_text.specs.Lines.{net_text}
use Rattle.mc_net_text.specs.declared.text.NoText.{NoText}
use Rattle.mc_net_text.specs.declared.text.NoText.TheVariants.{NotReadBack, NoMemory}

-- what was declared is this network, without a command
pub record Tells (net_names : NameLists) (plan : PlanState) (net_blocks : List BlockState) (told : NameLists)
    (told_boxes : List DeclaredBox) (told_channels : List ChannelState) (told_blocks : List BlockState)
    (told_commands : List Command) : Type 0 where
  pub names : told ≡ net_names
  pub boxes : told_boxes ≡ map box_seen plan.boxes
  pub channels : told_channels ≡ plan.channels
  pub blocks : told_blocks ≡ net_blocks
  pub commands : told_commands ≡ []

-- the text is in the grammar, and declares these names, boxes, channels and programs, and no command
pub record ReadsAs (names : NameLists) (plan : PlanState) (blocks : List BlockState) (text : List ℕ) : Type 0 where
  pub declared : Declared
  pub says : Says Nothing text declared
  pub tells : Tells names plan blocks declared.names declared.boxes declared.channels declared.blocks declared.commands

-- why no text was made: the lines of the network don't read as it, or memory ran out, which says nothing of it
abbrev pub RefusesNet : NameLists → PlanState → List BlockState → NoText → Type 0
RefusesNet names plan blocks NotReadBack = ReadsAs names plan blocks (net_text names plan blocks) → ⊥
RefusesNet names plan blocks (NoMemory e) = Unit {0}
