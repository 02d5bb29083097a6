use Rattle.std.proofs.Common.{◌≡◌, ◌<◌, ℕ, slice_get}
use Rattle.mc_shard.proofs.replaying.same_sent.Given as goal

-- the same so far
abbrev pub invariant-loop-i : goal.invariant-loop-i
invariant-loop-i l = (k : ℕ) → k < l.i → slice_get l.a.items k ≡ slice_get l.b.items k
