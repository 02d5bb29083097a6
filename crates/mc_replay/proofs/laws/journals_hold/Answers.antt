use Rattle.mc_replay.proofs.Holds.{journals_hold}
use Rattle.mc_replay.proofs.laws.journals_hold.Goals as goal

pub returns : goal.returns
returns c = journals_hold
