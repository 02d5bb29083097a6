use Rattle.mc_merge.proofs.Together.{parts_are_logged}
use Rattle.mc_merge.proofs.laws.parts_are_logged.Goals as goal

pub returns : goal.returns
returns c = parts_are_logged
