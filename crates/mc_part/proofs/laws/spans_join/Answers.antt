use Rattle.mc_part.proofs.Spanning.{spans_join}
use Rattle.mc_part.proofs.laws.spans_join.Goals as goal

pub returns : goal.returns
returns c = spans_join
