use Rattle.std.proofs.Common.{◌≡◌, []}
use Rattle.mc_seq.specs.Commands.{commands_left}
use Rattle.mc_seq.specs.Drawing.{DrewAll, IsKept, drawn_of, turns_of_programs}
use Rattle.mc_seq.proofs.drawing.come_to_rest.Given as goal

-- drawn turns led here
abbrev pub invariant-stretches : goal.invariant-stretches
invariant-stretches l = record {
  kept : IsKept l.so_far;
  left : commands_left l.so_far.left ≡ [];
  drew : DrewAll (drawn_of l.initial.so_far l.initial.draws.state) (drawn_of l.so_far l.draws.state);
}

-- and each Shift leaves fewer to come
abbrev pub decreases-stretches : goal.decreases-stretches
decreases-stretches l = turns_of_programs (drawn_of l.so_far l.draws.state).schedule
