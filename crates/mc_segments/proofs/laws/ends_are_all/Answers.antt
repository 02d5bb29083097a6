use Rattle.mc_segments.proofs.AllEnds.{all_from}
use Rattle.mc_segments.proofs.laws.ends_are_all.Goals as goal

pub returns : goal.returns
returns c = λ world turns ends are place. all_from ends world turns 0 are place
