-- The merge of journals, as it is computed: by stamps alone.
use Rattle.std.specs.Prelude.{◌≡◌, ℕ, zero, suc, ◌<◌, if◌then◌else◌, nat_lt, List, [], ◌∷◌, length, map, Some}
use Rattle.std.specs.List.{AllByRecursion}
use Rattle.mc_signal.specs.declared.Tagged.{Tagged}
use Rattle.mc_box.specs.Boxes.{BoxState}
use Rattle.mc_port.specs.Entries.{Entry}
use Rattle.mc_model.specs.Steps.{run}
use Rattle.mc_model.specs.Worlds.{WorldState}
use Rattle.mc_merge.specs.Logs.{Own}
use Rattle.mc_merge.specs.Order.{turns_of}
use Rattle.mc_merge.specs.Together.{Homes}
use Rattle.mc_shard.specs.States.{IsJournal}
use Rattle.mc_shard_laws.specs.Logs.{owns}
use Rattle.mc_shard_laws.specs.Together.{AreShardsOf, Journalled}

-- an entry stands before the first that has no lower stamp
abbrev pub put_in : Own → List Own → List Own
put_in own [] = own ∷ []
put_in own (first ∷ rest) =
    if nat_lt first.entry.stamp own.entry.stamp then first ∷ put_in own rest else own ∷ first ∷ rest

abbrev pub merge : List Own → List Own → List Own
merge [] others = others
merge (own ∷ log) others = put_in own (merge log others)

-- the entries of a shard, with the world's numbers of its boxes
abbrev pub named : (ℕ → ℕ) → List Own → List Own
named names log = map (λ (own : Own). record { who = names own.who; entry = own.entry }) log

abbrev pub entries_in : Journalled → List Own
entries_in shard = owns shard.first shard.journal

-- the journals of the first so many shards
abbrev pub merged_journals : ℕ → (ℕ → ℕ → ℕ) → (ℕ → Journalled) → List Own
merged_journals zero names shards = []
merged_journals (suc shard) names shards =
    merge (named (names shard) (entries_in (shards shard))) (merged_journals shard names shards)

-- where an entry's box is
abbrev pub IsNamed : ℕ → (ℕ → ℕ) → Homes → ℕ → Own → Type 0
IsNamed boxes names homes shard own = (names own.who < boxes) × (homes (names own.who) ≡ (shard, own.who))

-- each box has its home in one of so many shards, and these numbers are those of the boxes
pub record AreNamed (boxes count : ℕ) (names : ℕ → ℕ → ℕ) (homes : Homes) (shards : ℕ → Journalled) : Type 0 where
  pub journals : (shard : ℕ) → shard < count
      → IsJournal (shards shard).places (shards shard).first (shards shard).journal
  pub named_so : (shard : ℕ) → shard < count
      → AllByRecursion (IsNamed boxes (names shard) homes shard) (entries_in (shards shard))
  pub home : (who : ℕ) → who < boxes → (homes who).0 < count
  pub back : (who : ℕ) → who < boxes → names (homes who).0 (homes who).1 ≡ who

-- the merge is a run of the world
abbrev pub MergedRun : Type 0
MergedRun = (world : WorldState) (homes : Homes) (shards : ℕ → Journalled) (logs : List (List Entry))
    (boxes : List BoxState) (rests : List (List Tagged)) (count : ℕ) (names : ℕ → ℕ → ℕ)
    → AreShardsOf world homes shards logs boxes rests → AreNamed (length world.boxes) count names homes shards
    → run world (turns_of (merged_journals count names shards))
    ≡ Some (record world { boxes = boxes; lanes = rests })
