use Rattle.mc_path_laws.proofs.Ends.{each_end_once}
use Rattle.mc_path_laws.proofs.laws.each_end_once.Goals as goal

pub returns : goal.returns
returns c = each_end_once
