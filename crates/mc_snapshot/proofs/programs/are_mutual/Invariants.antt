use Rattle.std.proofs.Common.{◌<◌, ℕ}
use Rattle.mc_snapshot.specs.Programs.{IsMutualAt}
use Rattle.mc_snapshot.proofs.programs.are_mutual.Given as goal

-- the links before are mutual
abbrev pub invariant-loop-local : goal.invariant-loop-local
invariant-loop-local l = (local : ℕ) → local < l.local → IsMutualAt l.goals local
