use Rattle.mc_top.proofs.Parties.{conferences_are_all_pairs}
use Rattle.mc_top.proofs.laws.conferences_are_all_pairs.Goals as goal

pub returns : goal.returns
returns c = conferences_are_all_pairs
