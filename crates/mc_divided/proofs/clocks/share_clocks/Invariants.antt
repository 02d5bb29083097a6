use Rattle.std.proofs.Common.{◌≡◌, ◌<◌, ◌^◌, ℕ, All, length}
use Rattle.mc_divided.proofs.clocks.share_clocks.Given as goal

-- a clock for each part, as early ones
abbrev pub invariant-loop-part : goal.invariant-loop-part
invariant-loop-part l = record {
  count : length l.clocks.items ≡ l.parts;
  early : All (λ (clock : ℕ). clock < 2 ^ 63) l.clocks.items;
}
