use Rattle.mc_path_laws.proofs.RestTables.{links_at_rest}
use Rattle.mc_path_laws.proofs.laws.links_at_rest.Goals as goal

pub returns : goal.returns
returns c = links_at_rest
