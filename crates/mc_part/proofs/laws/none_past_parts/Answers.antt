use Rattle.mc_part.proofs.Filling.{none_past_parts}
use Rattle.mc_part.proofs.laws.none_past_parts.Goals as goal

pub returns : goal.returns
returns c = none_past_parts
