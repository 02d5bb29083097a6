use Rattle.std.proofs.Common.{◌≡◌, length}
use Rattle.mc_part.specs.Divisions.{is_crossing}
use Rattle.mc_divided.specs.Whole.{AreRanks, no_base}
use Rattle.mc_divided.proofs.whole.crossing_counts.Given as goal

-- those so far
abbrev pub invariant-loop-number : goal.invariant-loop-number
invariant-loop-number l = record {
  count : length l.counts.items ≡ l.fn.count;
  ranks : AreRanks (is_crossing l.assigned) no_base l.channels l.number l.counts.items;
}
