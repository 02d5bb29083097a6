use Rattle.mc_scene_laws.proofs.ChainTexts.{generated_are_texts}
use Rattle.mc_scene_laws.proofs.laws.generated_are_texts.Goals as goal

pub returns : goal.returns
returns c = generated_are_texts
