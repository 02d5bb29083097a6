use Rattle.std.proofs.Common.{◌≡◌, length}
use Rattle.mc_worker_tests.proofs.carrying.is_answered.Given as goal

abbrev pub invariant-loop-version : goal.invariant-loop-version
invariant-loop-version g l = length l.inboxes ≡ length l.initial.inboxes
