use Rattle.std.proofs.Common.{◌≤◌, ◌+◌, length}
use Rattle.mc_part.specs.Running.{AreCalm, Goes}
use Rattle.mc_part.proofs.running.take_some.Given as goal

-- what was made so far is the part's work, a turn or more each time
abbrev pub invariant-loop-done : goal.invariant-loop-done
invariant-loop-done g l = record {
  goes : Goes l.fn.budget l.fn.part l.part;
  calm : AreCalm l.part;
  made : length l.fn.part.log.items + l._done ≤ length l.part.log.items;
}
