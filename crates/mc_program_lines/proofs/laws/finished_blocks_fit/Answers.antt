use Rattle.mc_program_lines.proofs.FinishedBlocks.{finished_blocks_fit}
use Rattle.mc_program_lines.proofs.laws.finished_blocks_fit.Goals as goal

pub returns : goal.returns
returns c = finished_blocks_fit
