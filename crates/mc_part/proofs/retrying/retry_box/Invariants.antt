use Rattle.std.proofs.Common.{◌≡◌, ◌≤◌, ◌+◌, ℕ, length}
use Rattle.mc_part.specs.Parts.{IsWithin}
use Rattle.mc_part.specs.Retries.{HasRetried, below_slot, owes}
use Rattle.mc_part.specs.Running.{ChangesOnly}
use Rattle.mc_part.proofs.retrying.retry_box.Given as goal

-- the first slots have made the retries that they owed, and the others owe what they owed
abbrev pub invariant-loop-local : goal.invariant-loop-local
invariant-loop-local g l = record {
  retried : HasRetried (below_slot l.fn.who l.local) l.fn.part l.part;
  only : ChangesOnly l.fn.part l.part l.fn.who;
  others : (other : ℕ) → l.local ≤ other → owes l.part l.fn.who other ≡ owes l.fn.part l.fn.who other;
  within : IsWithin l.part;
  few : length l.part.log.items ≤ length l.fn.part.log.items + l.local;
}
