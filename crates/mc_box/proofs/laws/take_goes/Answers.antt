use Rattle.mc_box.proofs.EventGoes.{take_goes}
use Rattle.mc_box.proofs.laws.take_goes.Goals as goal

pub returns : goal.returns
returns c = take_goes
