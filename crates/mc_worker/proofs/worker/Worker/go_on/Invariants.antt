use Rattle.std.proofs.Common.{◌≡◌, ◌<◌, ℕ}
use Rattle.mc_worker.specs.Account.{in_at}
use Rattle.mc_worker.specs.Ends.{IsIdle}
use Rattle.mc_worker.specs.Turns.{AreTurns, IsUnderWay}
use Rattle.mc_worker.proofs.worker.Worker.go_on.Given as goal

abbrev pub invariant-loop : goal.invariant-loop
invariant-loop g l = record {
  made : AreTurns l.initial.self l.self l.initial.progress l.progress;
  under_way : IsUnderWay l.self l.progress;
  idle : (e : ℕ) → e < l.progress.passed → IsIdle (in_at l.initial.self e) (in_at l.self e);
  turns : l.progress.turns ≡ l.counter;
}
