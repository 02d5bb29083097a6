use Rattle.mc_segments.proofs.Allowed.{all_allowed}
use Rattle.mc_segments.proofs.laws.commands_are_allowed.Goals as goal

pub returns : goal.returns
returns c = λ world last turns ends sound goes are. all_allowed world last turns ends sound goes are
