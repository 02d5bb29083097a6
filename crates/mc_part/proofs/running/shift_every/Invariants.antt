use Rattle.std.proofs.Common.{◌<◌, ℕ, length}
use Rattle.mc_part.specs.Running.{Goes, IsCalm}
use Rattle.mc_part.proofs.running.shift_every.Given as goal

-- what was made so far is the part's work; the first boxes can't shift
abbrev pub invariant-loop-who : goal.invariant-loop-who
invariant-loop-who g l = record {
  goes : Goes l.fn.budget l.fn.part l.part;
  calm : (who : ℕ) → who < l.who → who < length l.part.engine.boxes → IsCalm l.part who;
}
