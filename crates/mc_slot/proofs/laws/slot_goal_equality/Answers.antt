use Rattle.mc_slot.proofs.Equal.{slot_goal_equality}
use Rattle.mc_slot.proofs.laws.slot_goal_equality.Goals as goal

pub returns : goal.returns
returns c = slot_goal_equality
