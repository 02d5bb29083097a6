use Rattle.std.proofs.Common.{◌≡◌, ◌<◌, ℕ, Some, slice_get}
use Rattle.mc_part.specs.declared.part_run.PartRun.{PartRun}
use Rattle.mc_divided.specs.Phasing.{HasMemory}
use Rattle.mc_divided.proofs.phase.check_memory.Given as goal

abbrev pub invariant-loop-run : goal.invariant-loop-run
invariant-loop-run l = (i : ℕ) (run : PartRun) → i < l.run-index → slice_get l.fn.runs i ≡ Some run → HasMemory run.ended
