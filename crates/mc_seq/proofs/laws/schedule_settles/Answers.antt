use Rattle.mc_seq.proofs.Rounds.{schedule_settles}
use Rattle.mc_seq.proofs.laws.schedule_settles.Goals as goal

pub returns : goal.returns
returns c = schedule_settles
