use Rattle.mc_box.proofs.EventGoes.{take_was_lawful}
use Rattle.mc_box.proofs.laws.take_was_lawful.Goals as goal

pub returns : goal.returns
returns c = take_was_lawful
