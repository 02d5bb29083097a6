use Rattle.std.proofs.Common.{◌≡◌, ℕ, take}
use Rattle.mc_live.specs.Askers.{HasPasses, IsSameAsker, asked_at, asks_for}
use Rattle.mc_live.proofs.asking.ask_hand.Given as goal

abbrev pub invariant-loop-turn : goal.invariant-loop-turn
invariant-loop-turn g l = record {
  passes : HasPasses l.desks l.asker;
  same : IsSameAsker l.initial.asker l.asker;
  asked : (who : ℕ) → asked_at l.asker who ≡ asks_for who (take l.turn-index l.hand);
}
