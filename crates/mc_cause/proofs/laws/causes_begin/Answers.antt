use Rattle.mc_cause.proofs.Known.{causes_begin}
use Rattle.mc_cause.proofs.laws.causes_begin.Goals as goal

pub returns : goal.returns
returns c = causes_begin
