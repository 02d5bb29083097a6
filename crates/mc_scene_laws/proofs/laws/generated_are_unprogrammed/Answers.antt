use Rattle.mc_scene_laws.proofs.GeneratedRests.{generated_are_unprogrammed}
use Rattle.mc_scene_laws.proofs.laws.generated_are_unprogrammed.Goals as goal

pub returns : goal.returns
returns c = generated_are_unprogrammed
