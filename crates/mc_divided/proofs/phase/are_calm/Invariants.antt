use Rattle.std.proofs.Common.{◌≡◌, ◌<◌, ℕ, Some, slice_get}
use Rattle.mc_part.specs.declared.part_run.PartRun.{PartRun}
use Rattle.mc_divided.specs.Phasing.{EndsCalm}
use Rattle.mc_divided.proofs.phase.are_calm.Given as goal

abbrev pub invariant-loop-run : goal.invariant-loop-run
invariant-loop-run l = (i : ℕ) (run : PartRun) → i < l.run-index → slice_get l.fn.runs i ≡ Some run → EndsCalm l.fn.calm run.ended
