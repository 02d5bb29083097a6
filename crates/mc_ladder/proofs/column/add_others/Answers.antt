use Rattle.std.proofs.Common.{arith}
use Rattle.std.proofs.lemmas.Grind.{common_steps}
use Rattle.mc_ladder.proofs.Added.{numbers_new}
use Rattle.mc_ladder.proofs.column.add_others.Goals as goal

pub loop-who-preserved : goal.loop-who-preserved
loop-who-preserved c = grind (arith, common_steps, numbers_new)
