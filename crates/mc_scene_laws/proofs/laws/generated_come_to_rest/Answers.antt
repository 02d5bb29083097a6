use Rattle.mc_scene_laws.proofs.GeneratedRests.{generated_come_to_rest}
use Rattle.mc_scene_laws.proofs.laws.generated_come_to_rest.Goals as goal

pub returns : goal.returns
returns c = generated_come_to_rest
