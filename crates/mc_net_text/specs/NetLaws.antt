-- What is read of a text that reads as a network.
use Rattle.std.specs.Prelude.{◌≡◌, ℕ, List, [], map}
use Rattle.mc_text.specs.NameLists.{NameLists}
use Rattle.mc_plan.specs.Plans.{PlanState, world_of}
use Rattle.mc_lines.specs.declared.tail.Tail.TheVariants.{Nothing}
use Rattle.mc_program_lines.specs.Programs.{BlockState}
use Rattle.mc_net.specs.Nets.{DeclaresNet, batch_turns, with_programs}
use Rattle.mc_net.specs.declared.net.Net.{Net}
use Rattle.mc_net_text.specs.Texts.{ReadsAs}

-- the network has these names, and its first world is that of the plan with these programs; it has no batch
pub record IsNetOf (own : NameLists) (plan : PlanState) (blocks : List BlockState) (net : Net) : Type 0 where
  pub names : net.names ≡ own
  pub world : net.world ≡ with_programs (world_of plan) blocks
  pub batches : map batch_turns net.batches.items ≡ []

-- each network that is read of such a text is this one
abbrev pub NetsRead : Type 0
NetsRead =
    (names : NameLists) (plan : PlanState) (blocks : List BlockState) (text : List ℕ) (net : Net)
    → ReadsAs names plan blocks text → DeclaresNet Nothing text net → IsNetOf names plan blocks net
