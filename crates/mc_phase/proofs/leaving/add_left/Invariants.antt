use Rattle.std.proofs.Common.{◌≡◌, ◌++◌, map, take}
use Rattle.mc_box.specs.BoxEvents.{turn_of}
use Rattle.mc_phase.proofs.leaving.add_left.Given as goal

abbrev pub invariant-loop-at : goal.invariant-loop-at
invariant-loop-at l = l.turns.items ≡ l.initial.turns.items ++ map (turn_of l.who) (take l.at l.stimuli.items)
