use Rattle.mc_slot_laws.proofs.EndPays.{end_pays}
use Rattle.mc_slot_laws.proofs.end_pays.Goals as goal

pub returns : goal.returns
returns c = end_pays
