use Rattle.std.proofs.Common.{◌≡◌, ℕ, ◌++◌, ◌∷◌, [], nat_lt, if◌then◌else◌, None}
use Rattle.mc_live.specs.Askers.{HasPasses, IsSameAsker, asked_at, asks_for}
use Rattle.mc_live.proofs.asking.end_all.Given as goal

abbrev pub invariant-loop-at : goal.invariant-loop-at
invariant-loop-at g l = record {
  passes : HasPasses l.desks l.asker;
  same : IsSameAsker l.initial.asker l.asker;
  asked : (who : ℕ) → asked_at l.asker who ≡ asks_for who l.hand ++ (if nat_lt who l.at then None ∷ [] else []);
}
