use Rattle.mc_segments.proofs.Missed.{mark_is_end}
use Rattle.mc_segments.proofs.laws.no_mark_is_missed.Goals as goal

pub returns : goal.returns
returns c = λ world batches before behind ends journal are some may. mark_is_end world batches before behind ends journal are some may
