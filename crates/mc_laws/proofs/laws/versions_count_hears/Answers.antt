use Rattle.mc_laws.proofs.RunVersions.{versions_count_hears}
use Rattle.mc_laws.proofs.laws.versions_count_hears.Goals as goal

pub returns : goal.returns
returns c = versions_count_hears
