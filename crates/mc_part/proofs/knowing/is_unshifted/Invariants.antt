use Rattle.std.proofs.Common.{◌≡◌, ◌<◌, ℕ, false, Some, slice_get}
use Rattle.mc_box.specs.BoxEvents.{is_shift}
use Rattle.mc_merge.specs.declared.log.Made.{Made}
use Rattle.mc_part.proofs.knowing.is_unshifted.Given as goal

-- none of those so far
abbrev pub invariant-loop-at : goal.invariant-loop-at
invariant-loop-at l = (at : ℕ) (made : Made) → at < l.at → slice_get l.part.log.items at ≡ Some made → is_shift made.event ≡ false
