use Rattle.std.proofs.Common.{ℕ, List, MatchBool, subst}
use Rattle.mc_shard.specs.Shards.{AtOwnEnds}
use Rattle.mc_shard.proofs.places.SlotPlaces.are_own.Goals as goal

pub returns : goal.returns
returns c = subst (λ (v : List (ℕ × ℕ)). MatchBool c.all_own.result (AtOwnEnds c.args.owners.now c.args.who v) (AtOwnEnds c.args.owners.now c.args.who v → ⊥)) c.self.view_is c.all_own.ensures
