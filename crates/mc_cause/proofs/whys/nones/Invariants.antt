use Rattle.std.proofs.Common.{◌≡◌, None}
use Rattle.std.specs.Prelude.{replicate}
use Rattle.mc_cause.proofs.whys.nones.Given as goal

-- so many so far
abbrev pub invariant-loop-done : goal.invariant-loop-done
invariant-loop-done l = l.numbers.items ≡ replicate l._done None
