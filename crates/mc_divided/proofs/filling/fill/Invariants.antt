use Rattle.std.proofs.Common.{◌≡◌, length}
use Rattle.mc_divided.specs.Laying.{AreFilled}
use Rattle.mc_world.specs.Lanes.{signals_of}
use Rattle.mc_divided.proofs.filling.fill.Given as goal

-- the lanes of the first channels are filled, and nothing else changed
abbrev pub invariant-loop-place : goal.invariant-loop-place
invariant-loop-place l = record {
  filled : AreFilled l.assigned l.channels (signals_of l.lanes) l.part l.numbers.items l.place l.engine.lanes;
  kept : l.engine ≡ record l.fn.engine { lanes = l.engine.lanes };
  count : length l.engine.lanes ≡ length l.fn.engine.lanes;
}
