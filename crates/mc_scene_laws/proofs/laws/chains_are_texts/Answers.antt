use Rattle.mc_scene_laws.proofs.ChainTexts.{chains_are_texts}
use Rattle.mc_scene_laws.proofs.laws.chains_are_texts.Goals as goal

pub returns : goal.returns
returns c = chains_are_texts
