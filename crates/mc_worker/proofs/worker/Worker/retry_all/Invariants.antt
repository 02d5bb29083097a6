use Rattle.std.proofs.Common.{◌≡◌, ◌≤◌, ℕ, length}
use Rattle.mc_box.specs.BoxEvents.{is_enabled}
use Rattle.mc_box.specs.declared.event.Event.TheVariants.{Retry}
use Rattle.mc_worker.specs.Account.{owed_below}
use Rattle.mc_worker.specs.Turns.{AreRetried, IsUnderWay}
use Rattle.mc_worker.proofs.worker.Worker.retry_all.Given as goal

abbrev pub invariant-loop-slot : goal.invariant-loop-slot
invariant-loop-slot g l = record {
  made : AreRetried l.initial.self l.self l.initial.progress l.progress (owed_below l.initial.self.part l.slot);
  owes_on : (other : ℕ) → l.slot ≤ other → is_enabled l.self.part (Retry other) ≡ is_enabled l.initial.self.part (Retry other);
  under_way : IsUnderWay l.self l.progress;
  slots : length l.self.part.slots ≡ length l.initial.self.part.slots;
  passed : l.progress.passed ≡ l.initial.progress.passed;
  turns : l.progress.turns ≤ l.slot;
}
