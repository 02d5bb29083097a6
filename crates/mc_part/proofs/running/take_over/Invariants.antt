use Rattle.std.proofs.Common.{◌<◌}
use Rattle.mc_part.specs.Running.{Goes, HasBegun, HasTried}
use Rattle.mc_part.proofs.running.take_over.Given as goal

-- what was made so far is the part's work; after a look something was made, or nothing waits
abbrev pub invariant-loop-look : goal.invariant-loop-look
invariant-loop-look g l = record {
  goes : Goes l.fn.budget l.fn.part l.part;
  begun : HasBegun l.part;
  tried : 0 < l._look → HasTried l.fn.part l.part;
}
