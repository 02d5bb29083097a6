use Rattle.std.proofs.Common.{arith}
use Rattle.std.proofs.lemmas.Grind.{common_steps}
use Rattle.mc_ladder.proofs.Numbered.{each_more}
use Rattle.mc_ladder.proofs.glyph.put_cells.Goals as goal

pub loop-done-preserved : goal.loop-done-preserved
loop-done-preserved c = grind (arith, common_steps, each_more)
