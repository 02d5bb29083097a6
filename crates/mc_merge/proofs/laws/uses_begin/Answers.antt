use Rattle.mc_merge.proofs.Usage.{uses_begin}
use Rattle.mc_merge.proofs.laws.uses_begin.Goals as goal

pub returns : goal.returns
returns c = uses_begin
