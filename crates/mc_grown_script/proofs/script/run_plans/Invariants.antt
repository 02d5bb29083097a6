use Rattle.std.proofs.Common.{drop}
use Rattle.mc_grown_script.proofs.Running.{GoesOn}
use Rattle.mc_grown_script.proofs.script.run_plans.Given as goal

-- what was run so far goes on with the plans that are left
abbrev pub invariant-loop-index : goal.invariant-loop-index
invariant-loop-index g l = GoesOn l.names l.fn.network l.plans (drop l.index l.plans) l.index l.progress
