use Rattle.std.proofs.Common.{◌≢◌, ◌<◌, ℕ, Some, slice_get}
use Rattle.mc_shard.proofs.places.find.Given as goal

-- none of the slots before has the place
abbrev pub invariant-loop-slot : goal.invariant-loop-slot
invariant-loop-slot l = (slot : ℕ) → slot < l.slot → slice_get l.list.items slot ≢ Some (l.end, l.tunnel)
