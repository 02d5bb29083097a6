use Rattle.std.proofs.Common.{◌≡◌, ◌<◌, ℕ, Some, slice_get}
use Rattle.mc_shard.specs.Shards.{IsOwn}
use Rattle.mc_shard.proofs.places.all_own.Given as goal

-- the slots before are at ends of the box
abbrev pub invariant-loop-slot : goal.invariant-loop-slot
invariant-loop-slot l = (slot : ℕ) (place : ℕ × ℕ) → slot < l.slot → slice_get l.list.items slot ≡ Some place → IsOwn l.owners l.who place.0
