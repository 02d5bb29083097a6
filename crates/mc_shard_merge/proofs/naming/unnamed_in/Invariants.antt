use Rattle.std.proofs.Common.{◌≡◌, ◌<◌, ℕ, Some, length, slice_get}
use Rattle.mc_shard.specs.Journals.{EntryState}
use Rattle.mc_shard_merge.proofs.naming.unnamed_in.Given as goal

-- the boxes of the entries so far have numbers
abbrev pub invariant-loop-index : goal.invariant-loop-index
invariant-loop-index l = (index : ℕ) (entry : EntryState) → index < l.index → slice_get l.journal index ≡ Some entry → entry.who < length l.numbers
