use Rattle.std.proofs.Common.{◌≡◌, ◌<◌, ℕ, Some, length, slice_get, slice_index}
use Rattle.mc_worker.specs.Places.{key}
use Rattle.mc_worker.specs.declared.limit.TheConstants.{TABLE_LEN}
use Rattle.mc_worker.proofs.places.table_of.Given as goal

abbrev pub invariant-loop-slot : goal.invariant-loop-slot
invariant-loop-slot l = record {
  long : length l.table ≡ TABLE_LEN;
  filled : (slot : ℕ) (place : ℕ × ℕ) → slot < l.slot → slice_get l.list.items slot ≡ Some place → slice_index l.table (key place) ≡ slot;
}
