use Rattle.std.proofs.Common.{◌≤◌, length}
use Rattle.mc_part.specs.Running.{Goes, HasBegun}
use Rattle.mc_part.proofs.running.take_all.Given as goal

-- what was made so far is the part's work, and each batch made a turn
abbrev pub invariant-loop-done : goal.invariant-loop-done
invariant-loop-done g l = record {
  goes : Goes l.fn.budget l.fn.part l.part;
  begun : HasBegun l.part;
  made : l._done ≤ length l.part.log.items;
}
