use Rattle.std.proofs.Common.{◌≡◌, ◌<◌, ℕ, length, slice_index_or}
use Rattle.mc_part.proofs.part.set_back.Given as goal

-- the first counts are set back
abbrev pub invariant-loop-place : goal.invariant-loop-place
invariant-loop-place l = record {
  count : length l.counts ≡ length l.fn.counts;
  none : (who : ℕ) → who < l.place → slice_index_or l.counts who 0 ≡ 0;
}
