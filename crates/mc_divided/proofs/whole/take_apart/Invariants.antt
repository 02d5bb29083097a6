use Rattle.std.proofs.Common.{◌≡◌}
use Rattle.mc_part.specs.DividedParts.{inner_lists}
use Rattle.mc_divided.specs.Whole.{boxes_among, lanes_among, lanes_of}
use Rattle.mc_divided.proofs.whole.take_apart.Given as goal

-- those of the parts so far
abbrev pub invariant-loop-run : goal.invariant-loop-run
invariant-loop-run l = record {
  boxes : inner_lists l.boxes.items ≡ boxes_among l.yielded;
  lanes : lanes_of l.lanes.items ≡ lanes_among l.yielded;
}
