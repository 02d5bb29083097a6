use Rattle.std.proofs.Common.{Option, Result, subst, sym}
use Rattle.mc_part.specs.declared.stop.Ended.{Ended}
use Rattle.mc_part.specs.declared.stop.PartStop.{PartStop}
use Rattle.mc_divided.specs.Phasing.{EndsCalm}
use Rattle.mc_divided.proofs.phase.ends_calm.Goals as goal

pub returns-in-None : goal.returns-in-None
returns-in-None c calm = subst (λ (o : Option (Result Ended PartStop)). EndsCalm c.args.calm o) (sym c.in-None.is) calm
