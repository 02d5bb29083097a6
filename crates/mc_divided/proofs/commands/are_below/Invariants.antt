use Rattle.std.proofs.Common.{◌<◌, ℕ, get_or}
use Rattle.mc_box.specs.declared.limit.TheConstants.{SHIFT_LIMIT}
use Rattle.mc_divided.proofs.commands.are_below.Given as goal

abbrev pub invariant-loop-place : goal.invariant-loop-place
invariant-loop-place l = (who : ℕ) → who < l.place → get_or l.fn.counts who 0 < SHIFT_LIMIT
