use Rattle.std.proofs.Common.{◌≡◌, length, map, take}
use Rattle.mc_plain.specs.Programs.{state_of}
use Rattle.mc_plain.proofs.program.states_of.Given as goal

abbrev pub invariant-loop-i : goal.invariant-loop-i
invariant-loop-i l = l.made.items ≡ map (state_of (length l.slots)) (take l.i l.states)
