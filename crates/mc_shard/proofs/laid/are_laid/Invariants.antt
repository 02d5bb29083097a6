use Rattle.std.proofs.Common.{◌≡◌, ◌<◌, ℕ, length}
use Rattle.mc_shard.specs.Shards.{AtOwnEnds}
use Rattle.mc_shard.specs.States.{places_of}
use Rattle.mc_shard.proofs.laid.are_laid.Given as goal

-- the boxes before are at their ends
abbrev pub invariant-loop-who : goal.invariant-loop-who
invariant-loop-who l = record {
  count : length l.places ≡ length l.boxes;
  own : (who : ℕ) → who < l.who → AtOwnEnds l.owners who (places_of l.places who);
}
