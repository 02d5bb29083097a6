use Rattle.std.proofs.Common.{◌≡◌, ◌<◌, ℕ, Some, slice_get}
use Rattle.mc_part.specs.declared.part_run.PartRun.{PartRun}
use Rattle.mc_divided.specs.Commanding.{HasNoShifts}
use Rattle.mc_divided.proofs.knowing.any_shifted.Given as goal

abbrev pub invariant-loop-place : goal.invariant-loop-place
invariant-loop-place l = (i : ℕ) (run : PartRun) → i < l.place → slice_get l.fn.runs i ≡ Some run → HasNoShifts run
