use Rattle.mc_settings.proofs.AlikeWorlds.{alike_is_equivalence}
use Rattle.mc_settings.proofs.laws.alike_is_equivalence.Goals as goal

pub returns : goal.returns
returns c = alike_is_equivalence
