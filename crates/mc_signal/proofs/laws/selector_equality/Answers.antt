use Rattle.mc_signal.proofs.Equal.{selector_equality}
use Rattle.mc_signal.proofs.laws.selector_equality.Goals as goal

pub returns : goal.returns
returns c = selector_equality
