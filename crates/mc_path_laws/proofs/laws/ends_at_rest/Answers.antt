use Rattle.mc_path_laws.proofs.RestTables.{ends_at_rest}
use Rattle.mc_path_laws.proofs.laws.ends_at_rest.Goals as goal

pub returns : goal.returns
returns c = ends_at_rest
