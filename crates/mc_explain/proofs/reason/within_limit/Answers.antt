use Rattle.std.proofs.lemmas.List.{take_min}
use Rattle.mc_explain.proofs.reason.within_limit.Goals as goal

pub returns : goal.returns
returns c = rw c.min.ensures (take_min 256 c.args.line.now)
