use Rattle.mc_box.proofs.TakeThree.{take_sends_three}
use Rattle.mc_box.proofs.laws.take_sends_three.Goals as goal

pub returns : goal.returns
returns c = take_sends_three
