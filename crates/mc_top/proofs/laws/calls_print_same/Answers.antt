use Rattle.mc_top.proofs.TextAlone.{calls_print_same}
use Rattle.mc_top.proofs.laws.calls_print_same.Goals as goal

pub returns : goal.returns
returns c = calls_print_same
