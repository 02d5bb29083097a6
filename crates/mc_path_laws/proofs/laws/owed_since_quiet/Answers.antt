use Rattle.mc_path_laws.proofs.OwedSince.{owed_since_quiet}
use Rattle.mc_path_laws.proofs.laws.owed_since_quiet.Goals as goal

pub returns : goal.returns
returns c = owed_since_quiet
