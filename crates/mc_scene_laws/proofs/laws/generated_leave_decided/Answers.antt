use Rattle.mc_scene_laws.proofs.GeneratedRests.{generated_leave_decided}
use Rattle.mc_scene_laws.proofs.laws.generated_leave_decided.Goals as goal

pub returns : goal.returns
returns c = generated_leave_decided
