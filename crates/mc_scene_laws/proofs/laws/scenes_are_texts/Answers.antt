use Rattle.mc_scene_laws.proofs.SceneTexts.{scenes_are_texts}
use Rattle.mc_scene_laws.proofs.laws.scenes_are_texts.Goals as goal

pub returns : goal.returns
returns c = scenes_are_texts
