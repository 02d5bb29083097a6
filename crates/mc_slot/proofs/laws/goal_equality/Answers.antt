use Rattle.mc_slot.proofs.Equal.{goal_equality}
use Rattle.mc_slot.proofs.laws.goal_equality.Goals as goal

pub returns : goal.returns
returns c = goal_equality
