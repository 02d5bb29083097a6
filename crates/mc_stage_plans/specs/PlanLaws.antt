-- Laws of the plans that a text makes: they may be asked for, all has names, and they are few.
use Rattle.std.specs.Prelude.{ℕ, ◌≤◌, List, length, map}
use Rattle.mc_growth.specs.Growths.{grown_from}
use Rattle.mc_lines.specs.declared.limit.TheConstants.{COMMAND_LIMIT}
use Rattle.mc_lines.specs.declared.tail.Tail.TheVariants.{Grow}
use Rattle.mc_net.specs.Nets.{DeclaresNet, batch_turns}
use Rattle.mc_net.specs.declared.net.Net.{Net}
use Rattle.mc_stage_plans.specs.Planned.{ArePlansOf}
use Rattle.mc_stages.specs.Plans.{AreLawful, NamesEnough, grown_at_end}
use Rattle.mc_stages.specs.declared.plan.StagePlan.{StagePlan}
use Rattle.mc_tail.specs.Tails.{DeclaresTail}
use Rattle.mc_tail.specs.declared.tail.TailText.{TailText}

-- these are the network of a text, what stands after its line `grow`, and the plans that both make
pub record ArePlanned (text : List ℕ) (net : Net) (tail : TailText) (plans : List StagePlan) : Type 0 where
  pub declares : DeclaresNet Grow text net
  pub grows : DeclaresTail text tail
  pub planned : ArePlansOf (map batch_turns net.batches.items) tail.items.items plans

-- each of the plans may be asked for after those before it: its joins and cuts, and its batch of the network that they
-- make
abbrev pub PlansMayHappen : Type 0
PlansMayHappen =
    (text : List ℕ) (net : Net) (tail : TailText) (plans : List StagePlan) → ArePlanned text net tail plans
    → AreLawful (grown_from net.world) plans

-- the names of the text are enough for all that is ever in the network
abbrev pub PlansAreNamed : Type 0
PlansAreNamed =
    (text : List ℕ) (net : Net) (tail : TailText) (plans : List StagePlan) → ArePlanned text net tail plans
    → NamesEnough tail.names (grown_at_end (grown_from net.world) plans).world

-- there are no more plans than a text has commands
abbrev pub PlansAreFew : Type 0
PlansAreFew =
    (text : List ℕ) (net : Net) (tail : TailText) (plans : List StagePlan) → ArePlanned text net tail plans
    → length plans ≤ COMMAND_LIMIT
