use Rattle.mc_link.proofs.SecondSlot.{second_slot_pays}
use Rattle.mc_link.proofs.laws.second_slot_pays.Goals as goal

pub returns : goal.returns
returns c = second_slot_pays
