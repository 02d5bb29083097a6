use Rattle.std.proofs.Common.{◌≡◌, length}
use Rattle.mc_divided.specs.Whole.{AreCounted, lanes_of, lanes_upto}
use Rattle.mc_world.specs.Lanes.{signals_of}
use Rattle.mc_divided.proofs.whole.whole_lanes.Given as goal

-- the lanes so far, and the counts
abbrev pub invariant-loop-number : goal.invariant-loop-number
invariant-loop-number l = record {
  crossed : length l.crossed.items ≡ length l.taken;
  inner : length l.inner.items ≡ length l.taken;
  counted : AreCounted l.assigned l.channels l.number l.crossed.items l.inner.items;
  lanes : signals_of l.lanes.items ≡ lanes_upto l.assigned l.channels (lanes_of l.taken) l.number;
}
