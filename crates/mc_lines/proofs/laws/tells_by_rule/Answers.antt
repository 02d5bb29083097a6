use Rattle.mc_lines.proofs.DetailsTold.{tells_by_rule}
use Rattle.mc_lines.proofs.laws.tells_by_rule.Goals as goal

pub returns : goal.returns
returns c = tells_by_rule
