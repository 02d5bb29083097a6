use Rattle.mc_segments.proofs.Marked.{once_from}
use Rattle.mc_segments.proofs.laws.each_turn_once.Goals as goal

pub returns : goal.returns
returns c = λ world turns ends are. once_from ends world turns 0 are
