use Rattle.std.proofs.Common.{arith}
use Rattle.std.proofs.lemmas.Grind.{common_steps}
use Rattle.std.proofs.lemmas.List.Elements.{filter_map-append}
use Rattle.mc_conf.proofs.party.add_legs.Goals as goal

pub loop-view-preserved : goal.loop-view-preserved
loop-view-preserved c = grind (arith, common_steps, filter_map-append)
