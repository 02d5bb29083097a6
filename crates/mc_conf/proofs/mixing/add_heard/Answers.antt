use Rattle.std.proofs.Common.{arith}
use Rattle.std.proofs.lemmas.Grind.{common_steps}
use Rattle.std.proofs.lemmas.List.Elements.{filter_map-append}
use Rattle.mc_conf.proofs.mixing.add_heard.Goals as goal

pub loop-heard-preserved : goal.loop-heard-preserved
loop-heard-preserved c = grind (arith, common_steps, filter_map-append)
