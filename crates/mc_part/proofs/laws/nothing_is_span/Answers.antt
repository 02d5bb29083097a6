use Rattle.mc_part.proofs.Spanning.{nothing_is_span}
use Rattle.mc_part.proofs.laws.nothing_is_span.Goals as goal

pub returns : goal.returns
returns c = nothing_is_span
