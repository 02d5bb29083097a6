use Rattle.mc_part.specs.Running.{AreCalmFrom, Goes}
use Rattle.mc_part.proofs.running.shift_commanded.Given as goal

-- what was made so far is the part's work; boxes that can shift have later commands
abbrev pub invariant-loop-at : goal.invariant-loop-at
invariant-loop-at g l = record {
  goes : Goes l.fn.budget l.fn.part l.part;
  calm : AreCalmFrom l.at l.part;
}
