use Rattle.mc_cause.proofs.Sending.{begins_take_none}
use Rattle.mc_cause.proofs.laws.begins_take_none.Goals as goal

pub returns : goal.returns
returns c = begins_take_none
