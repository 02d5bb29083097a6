use Rattle.mc_path_laws.proofs.Standing.{each_slot_once}
use Rattle.mc_path_laws.proofs.laws.each_slot_once.Goals as goal

pub returns : goal.returns
returns c = each_slot_once
