-- The digests of lanes: a sender that lost a part of its journal is noticed, and an honest one is never refused.
use Rattle.std.specs.Prelude.{◌≡◌, ℕ, ◌<◌, List, [], ◌∷◌, length}
use Rattle.mc_shard.specs.Journals.{EntryState, sent_at, taken_at}
use Rattle.mc_shard.specs.Refusals.{HindersTake}
use Rattle.mc_shard.specs.Shards.{LaidShard}
use Rattle.mc_shard.specs.States.{Follows, IsJournal, Places, ShardState, reached_at}
use Rattle.mc_shard.specs.declared.entry.Numbered.{Numbered}
use Rattle.mc_shard.specs.declared.refused.Refused.TheVariants.{Digest}
use Rattle.mc_shard_laws.specs.Growth.{ComesFrom}
use Rattle.mc_shard_laws.specs.Together.{Journalled, state_of, under_way}

-- the digest of each signal goes on from that of the one before it
abbrev pub AreChained : ℕ → List Numbered → Type 0
AreChained last [] = Unit {0}
AreChained last (item ∷ items) = Follows last item × AreChained item.digest items

-- so it is of all that a journal sends at an end
abbrev pub SentIsChained : Type 0
SentIsChained = (places : Places) (first : ShardState) (entries : List EntryState) (end : ℕ) → end < length first.sent
    → IsJournal places first entries → AreChained (reached_at first.sent end).digest (sent_at end entries)

-- a shard as it stands after its journal
abbrev pub standing : Journalled → List ℕ → LaidShard
standing shard owners = record { places = shard.places; owners = owners; state = state_of shard }

-- both ends of a lane began with one digest
abbrev pub BeginAlike : (shards : ℕ → Journalled) (to into : ℕ) → ComesFrom shards to into → Type 0
BeginAlike shards to into c = (reached_at (shards c.from).first.sent c.out).digest
    ≡ (reached_at (shards to).first.taken into).digest

-- the next signal of a lane, as the journals of its two shards have it, is never refused for its digest
abbrev pub NextIsChained : Type 0
NextIsChained = (shards : ℕ → Journalled) (to into : ℕ) (c : ComesFrom shards to into) (owners : List ℕ)
    (item : Numbered) (rest : List Numbered)
    → ((shard : ℕ) → IsJournal (shards shard).places (shards shard).first (shards shard).journal)
    → BeginAlike shards to into c
    → under_way (taken_at into (shards to).journal) (sent_at c.out (shards c.from).journal) ≡ item ∷ rest
    → HindersTake Digest (standing (shards to) owners) (record { end = into; item = item }) → ⊥
