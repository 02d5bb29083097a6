use Rattle.std.proofs.Common.{◌≡◌, ◌<◌, ℕ, Some, slice_get}
use Rattle.mc_merge.specs.declared.log.Made.{Made}
use Rattle.mc_part.specs.Knowing.{OwesNone}
use Rattle.mc_part.proofs.knowing.is_unowed.Given as goal

-- none of those so far
abbrev pub invariant-loop-at : goal.invariant-loop-at
invariant-loop-at l = (at : ℕ) (made : Made) → at < l.at → slice_get l.part.log.items at ≡ Some made → OwesNone l.part.engine made.who
