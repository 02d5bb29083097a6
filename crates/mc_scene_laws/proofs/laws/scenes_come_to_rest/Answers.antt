use Rattle.mc_scene_laws.proofs.SceneRests.{scenes_come_to_rest}
use Rattle.mc_scene_laws.proofs.laws.scenes_come_to_rest.Goals as goal

pub returns : goal.returns
returns c = scenes_come_to_rest
