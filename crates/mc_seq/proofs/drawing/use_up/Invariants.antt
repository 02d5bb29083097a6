use Rattle.mc_model.specs.Sound.{IsSound}
use Rattle.mc_model.specs.Shapes.{AreAllowed}
use Rattle.mc_seq.specs.Commands.{commands_left}
use Rattle.mc_seq.specs.Drawing.{IsKept, drawn_of}
use Rattle.mc_seq.proofs.SettlesSoFar.{GoesOn, turns_to_come}
use Rattle.mc_seq.proofs.drawing.use_up.Given as goal

-- whatever is drawn, it goes on from here
abbrev pub invariant-commands : goal.invariant-commands
invariant-commands l = record {
  kept : IsKept l.so_far;
  sound : IsSound l.so_far.settled.world;
  allowed : AreAllowed l.so_far.settled.world (commands_left l.so_far.left);
  drew : GoesOn (drawn_of l.initial.so_far l.initial.draws.state) (drawn_of l.so_far l.draws.state);
}

abbrev pub decreases-commands : goal.decreases-commands
decreases-commands l = turns_to_come (commands_left l.so_far.left) l.so_far.since
