use Rattle.std.proofs.Common.{◌≡◌, ◌<◌, ℕ, Some, slice_get}
use Rattle.mc_part.specs.declared.part_run.PartRun.{PartRun}
use Rattle.mc_divided.specs.Phasing.{EndsWell}
use Rattle.mc_divided.proofs.phase.first_end.Given as goal

abbrev pub invariant-loop-part : goal.invariant-loop-part
invariant-loop-part l = (i : ℕ) (run : PartRun) → i < l.part → slice_get l.fn.runs i ≡ Some run → EndsWell run.ended
