-- What was declared makes the network that the text declares.
use Rattle.std.proofs.Common.{◌≡◌, ℕ, List, map, ap, ◌∙◌}
use Rattle.mc_lines.specs.BoxLines.{box_seen}
use Rattle.mc_plan.specs.Plans.{world_of}
use Rattle.mc_net.specs.Nets.{DeclaresNet, IsMadeOf, with_programs}
use Rattle.mc_lines.specs.SoFar.{Declared}
use Rattle.mc_lines.specs.declared.tail.Tail.{Tail}
use Rattle.mc_net.specs.Texts.{Says, text_end}
use Rattle.mc_net.specs.declared.net.Net.{Net}
use Rattle.mc_lines.specs.declared.reader.Declarations.{Declarations}

-- the parts are those that the text declares
pub record AreOf (d : Declared) (parts : Declarations) : Type 0 where
  pub names : parts.names ≡ d.names
  pub shape : parts.shape ≡ d.shape
  pub boxes : map box_seen parts.plan.boxes ≡ d.boxes
  pub channels : parts.plan.channels ≡ d.channels
  pub blocks : parts.blocks.items ≡ d.blocks
  pub commands : parts.commands.items ≡ d.commands

pub net_declares : (tail : Tail) (text : List ℕ) (d : Declared) (parts : Declarations) (net : Net) (place : ℕ) → Says tail text d → AreOf d parts → place ≡ text_end tail text → IsMadeOf parts place net → DeclaresNet tail text net
net_declares tail text d parts net place says are there made = record {
  declared = d;
  says = says;
  names = made.names ∙ are.names;
  shape = made.shape ∙ are.shape;
  world = record { plan = parts.plan; boxes = are.boxes; channels = are.channels; world = made.world ∙ ap (with_programs (world_of parts.plan)) are.blocks };
  batches = rw (← are.commands) made.batches;
  rest = made.rest ∙ there;
}
