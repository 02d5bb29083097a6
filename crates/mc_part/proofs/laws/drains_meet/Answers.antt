use Rattle.mc_part.proofs.Draining.{drains_meet}
use Rattle.mc_part.proofs.laws.drains_meet.Goals as goal

pub returns : goal.returns
returns c = drains_meet
