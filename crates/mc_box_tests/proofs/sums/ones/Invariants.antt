use Rattle.std.proofs.Common.{◌≤◌, ◌-◌, ℕ, length}
use Rattle.std.proofs.Math.ListN.{get_or}
use Rattle.mc_box_tests.proofs.sums.ones.Given as goal

-- what is there so far
abbrev pub invariant-loop-counts : goal.invariant-loop-counts
invariant-loop-counts l = record {
  long : length l.counts.items ≤ l.places;
  low : (place : ℕ) → get_or l.counts.items place 0 ≤ 1;
}

abbrev pub decreases-loop-counts : goal.decreases-loop-counts
decreases-loop-counts l = l.places - length l.counts.items
