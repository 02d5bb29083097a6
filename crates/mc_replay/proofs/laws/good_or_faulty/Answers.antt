use Rattle.mc_replay.proofs.Good.{good_or_faulty}
use Rattle.mc_replay.proofs.laws.good_or_faulty.Goals as goal

pub returns : goal.returns
returns c = good_or_faulty
