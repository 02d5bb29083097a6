use Rattle.std.proofs.Common.{◌≡◌, ◌<◌, ◌^◌, ℕ, All, length}
use Rattle.mc_divided.proofs.clocks.level.Given as goal

-- as many clocks, as early ones
abbrev pub invariant-loop-crossing : goal.invariant-loop-crossing
invariant-loop-crossing l = record {
  count : length l.clocks ≡ length l.fn.clocks;
  early : All (λ (clock : ℕ). clock < 2 ^ 63) l.fn.clocks → All (λ (clock : ℕ). clock < 2 ^ 63) l.clocks;
}
