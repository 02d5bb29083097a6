use Rattle.mc_scene_laws.proofs.ChainTexts.{drawn_chains_are_numbered}
use Rattle.mc_scene_laws.proofs.laws.drawn_chains_are_numbered.Goals as goal

pub returns : goal.returns
returns c = drawn_chains_are_numbered
