use Rattle.std.proofs.Common.{◌≡◌, ℕ, length, take}
use Rattle.mc_seq.specs.Commands.{queue_at, queues_of, turns_of}
use Rattle.mc_seq.proofs.commands.queues_by_box.Given as goal

-- each box has its commands so far
abbrev pub invariant-loop-turn : goal.invariant-loop-turn
invariant-loop-turn l = record {
  long : length l.queues.items ≡ length l.world.boxes;
  each : (who : ℕ) → queue_at (queues_of l.queues.items) who ≡ turns_of who (take l.turn-index l.batch);
}
