use Rattle.mc_top.proofs.SceneOutputs.{scenes_print_the_same}
use Rattle.mc_top.proofs.laws.scenes_print_the_same.Goals as goal

pub returns : goal.returns
returns c = scenes_print_the_same
