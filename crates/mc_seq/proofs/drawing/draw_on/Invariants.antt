use Rattle.std.proofs.Common.{◌≡◌, []}
use Rattle.mc_laws.specs.Measures.{IsRingFree, measure}
use Rattle.mc_seq.specs.Commands.{commands_left}
use Rattle.mc_seq.specs.Drawing.{IsKept, drawn_of}
use Rattle.mc_seq.proofs.SettlesSoFar.{GoesOn}
use Rattle.mc_seq.proofs.drawing.draw_on.Given as goal

-- whatever is drawn, it goes on from here
abbrev pub invariant-takes : goal.invariant-takes
invariant-takes l = record {
  kept : IsKept l.so_far;
  free : IsRingFree l.so_far.settled.world;
  left : commands_left l.so_far.left ≡ [];
  drew : GoesOn (drawn_of l.initial.so_far l.initial.draws.state) (drawn_of l.so_far l.draws.state);
}

abbrev pub decreases-takes : goal.decreases-takes
decreases-takes l = measure l.so_far.settled.world
