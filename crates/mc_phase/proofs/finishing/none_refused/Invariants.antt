use Rattle.std.proofs.Common.{drop}
use Rattle.mc_live.specs.Phases.{NoneRefused}
use Rattle.mc_phase.proofs.finishing.none_refused.Given as goal

-- where none of those that are left was refused, none was
abbrev pub invariant-loop-run : goal.invariant-loop-run
invariant-loop-run l = NoneRefused (drop l.run-index l.runs) → NoneRefused l.runs
