use Rattle.std.proofs.Common.{◌≡◌, ◌≤◌, ◌+◌, ◌*◌, ℕ, length}
use Rattle.mc_box.specs.declared.limit.TheConstants.{SLOT_LIMIT}
use Rattle.mc_model.specs.Worlds.{box_at}
use Rattle.mc_part.specs.Parts.{IsWithin}
use Rattle.mc_part.specs.Retries.{HasRetried, below_box}
use Rattle.mc_part.proofs.retrying.retry_all.Given as goal

-- the first boxes have made the retries that they owed, and the others are as they were
abbrev pub invariant-loop-who : goal.invariant-loop-who
invariant-loop-who g l = record {
  retried : HasRetried (below_box l.who) l.fn.part l.part;
  boxes : (at : ℕ) → l.who ≤ at → box_at l.part.engine at ≡ box_at l.fn.part.engine at;
  within : IsWithin l.part;
  few : length l.part.log.items ≤ length l.fn.part.log.items + SLOT_LIMIT * l.who;
}
