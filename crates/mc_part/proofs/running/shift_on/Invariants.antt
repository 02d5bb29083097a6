use Rattle.std.proofs.Common.{◌≤◌, length}
use Rattle.mc_part.specs.Parts.{shifts_of}
use Rattle.mc_part.specs.Running.{ChangesOnly, Goes}
use Rattle.mc_part.proofs.running.shift_on.Given as goal

-- what was made so far is the part's work, at this box alone, and each Shift counts
abbrev pub invariant-loop-done : goal.invariant-loop-done
invariant-loop-done g l = record {
  goes : Goes l.fn.budget l.fn.part l.part;
  only : ChangesOnly l.fn.part l.part l.fn.who;
  counted : l._done ≤ shifts_of l.part l.fn.who;
  grows : length l.fn.part.log.items ≤ length l.part.log.items;
}
