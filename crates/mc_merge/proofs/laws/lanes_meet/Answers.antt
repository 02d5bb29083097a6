use Rattle.mc_merge.proofs.Passing.{lanes_meet}
use Rattle.mc_merge.proofs.laws.lanes_meet.Goals as goal

pub returns : goal.returns
returns c = lanes_meet
