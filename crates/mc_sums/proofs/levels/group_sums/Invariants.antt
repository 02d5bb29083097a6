use Rattle.mc_sums.proofs.TreeBuilds.{SumsFirst}
use Rattle.mc_sums.proofs.levels.group_sums.Given as goal

-- so many of them
abbrev pub invariant-loop-group : goal.invariant-loop-group
invariant-loop-group l = SumsFirst l.level l.above.items l.group
