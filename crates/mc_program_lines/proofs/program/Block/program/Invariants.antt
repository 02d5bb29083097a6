use Rattle.std.proofs.Common.{◌≡◌, ◌++◌, drop, map}
use Rattle.mc_program_lines.specs.Finished.{state_of}
use Rattle.mc_program_lines.proofs.program.Block.program.Given as goal

-- the states so far, and those of the other parts, are all
abbrev pub invariant-loop-part : goal.invariant-loop-part
invariant-loop-part l = l.states.items ++ map state_of (drop l.part-index l.self.parts) ≡ map state_of l.self.parts
