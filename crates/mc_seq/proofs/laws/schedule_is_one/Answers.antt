use Rattle.mc_seq.proofs.OneSchedule.{schedule_is_one}
use Rattle.mc_seq.proofs.laws.schedule_is_one.Goals as goal

pub returns : goal.returns
returns c = schedule_is_one
