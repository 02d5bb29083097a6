use Rattle.mc_box.proofs.EventActs.{take_acts}
use Rattle.mc_box.proofs.laws.take_acts.Goals as goal

pub returns : goal.returns
returns c = take_acts
