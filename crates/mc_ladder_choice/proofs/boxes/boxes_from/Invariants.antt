use Rattle.mc_ladder_choice.proofs.Walked.{StillWalks}
use Rattle.mc_ladder_choice.proofs.boxes.boxes_from.Given as goal

-- what is still to walk
abbrev pub invariant-loop-done : goal.invariant-loop-done
invariant-loop-done l = StillWalks l.world l.fn.low l._done l.at l.boxes.items
