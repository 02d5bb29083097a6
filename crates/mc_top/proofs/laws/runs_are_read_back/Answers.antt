use Rattle.mc_top.proofs.NamedJournals.{runs_are_read_back}
use Rattle.mc_top.proofs.laws.runs_are_read_back.Goals as goal

pub returns : goal.returns
returns c = runs_are_read_back
