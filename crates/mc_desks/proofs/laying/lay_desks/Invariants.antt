use Rattle.std.proofs.Common.{◌≡◌, length}
use Rattle.mc_desks.proofs.DesksSoFar.{AreLaidSoFar}
use Rattle.mc_desks.specs.Passes.{lists_of}
use Rattle.mc_desks.proofs.laying.lay_desks.Given as goal

abbrev pub invariant-loop-done : goal.invariant-loop-done
invariant-loop-done l = record {
  count : length l.desks.items ≡ l._done;
  laid : AreLaidSoFar l.operators l.room l.desks.items l.takers.items (lists_of l.passes.items);
}
