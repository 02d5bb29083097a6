use Rattle.std.proofs.Common.{◌≡◌, ◌<◌, ◌^◌, ℕ, All, length}
use Rattle.mc_divided.proofs.clocks.apart.Given as goal

-- those so far
abbrev pub invariant-loop-part : goal.invariant-loop-part
invariant-loop-part l = record {
  count : length l.clocks.items ≡ l.part;
  early : All (λ (clock : ℕ). clock < 2 ^ 63) l.clocks.items;
}
