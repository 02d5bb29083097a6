use Rattle.mc_laws.proofs.HearCounts.{settles_count_hears}
use Rattle.mc_laws.proofs.laws.settles_count_hears.Goals as goal

pub returns : goal.returns
returns c = settles_count_hears
