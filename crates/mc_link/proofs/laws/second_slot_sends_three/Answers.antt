use Rattle.mc_link.proofs.SecondSlot.{second_slot_sends_three}
use Rattle.mc_link.proofs.laws.second_slot_sends_three.Goals as goal

pub returns : goal.returns
returns c = second_slot_sends_three
