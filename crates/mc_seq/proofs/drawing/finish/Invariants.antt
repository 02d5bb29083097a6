use Rattle.std.proofs.Common.{◌≡◌, []}
use Rattle.mc_seq.specs.Commands.{commands_left}
use Rattle.mc_seq.specs.Drawing.{IsKept, WentOn, drawn_of, turns_of_programs}
use Rattle.mc_seq.proofs.drawing.finish.Given as goal

-- rounds and drawn turns led here
abbrev pub invariant-rounds : goal.invariant-rounds
invariant-rounds l = record {
  kept : IsKept l.so_far;
  left : commands_left l.so_far.left ≡ [];
  went : WentOn (drawn_of l.initial.so_far l.initial.draws.state) (drawn_of l.so_far l.draws.state);
}

-- and each round leaves fewer to come
abbrev pub decreases-rounds : goal.decreases-rounds
decreases-rounds l = turns_of_programs (drawn_of l.so_far l.draws.state).schedule
