-- The turns of journals, as one run of a world.
use Rattle.std.specs.Prelude.{◌≡◌, ℕ, ◌<◌, ◌≤◌, List, [], length, map, slice_get, slice_index_or, Some}
use Rattle.std.specs.declared.alloc.Global.{Global}
use Rattle.std.specs.declared.vec.Vec.{Vec}
use Rattle.mc_signal.specs.declared.Tagged.{Tagged}
use Rattle.mc_box.specs.Boxes.{BoxState}
use Rattle.mc_box.specs.declared.event.Turn.{Turn}
use Rattle.mc_port.specs.Entries.{Entry}
use Rattle.mc_model.specs.Steps.{run}
use Rattle.mc_model.specs.Worlds.{WorldState}
use Rattle.mc_merge.specs.Order.{turns_of}
use Rattle.mc_merge.specs.Together.{Homes}
use Rattle.mc_shard.specs.Journals.{EntryState}
use Rattle.mc_shard.specs.States.{IsJournal}
use Rattle.mc_shard_laws.specs.Merged.{AreNamed, merged_journals}
use Rattle.mc_shard_laws.specs.Together.{AreShardsOf, Journalled}
use Rattle.mc_shard_merge.specs.Compared.{journal_at}
use Rattle.mc_shard_merge.specs.Stamped.{bare_turn, merged_stamped}
use Rattle.mc_shard_merge.specs.declared.fault.MergeFault.{MergeFault}
use Rattle.mc_shard_merge.specs.declared.fault.MergeFault.TheVariants.{NoMemory, Unnamed as Lacking}
use Rattle.mc_shard_merge.specs.declared.naming.Unnamed.{Unnamed}

-- the numbers that the boxes of each shard have in the world
abbrev pub names_of : List (Vec ℕ Global) → List (List ℕ)
names_of names = map (λ (numbers : Vec ℕ Global). numbers.items) names

abbrev pub names_at : List (List ℕ) → ℕ → List ℕ
names_at names shard = slice_index_or names shard []

-- of one box, by its shard and its number there
abbrev pub name_of : List (List ℕ) → ℕ → ℕ → ℕ
name_of names shard at = slice_index_or (names_at names shard) at 0

-- the box of each entry of a journal has one
abbrev pub EachNamed : List ℕ → List EntryState → Type 0
EachNamed numbers journal = (index : ℕ) (entry : EntryState) → slice_get journal index ≡ Some entry
    → entry.who < length numbers

-- and that of the entry at this place has none
pub record LacksName (numbers : List ℕ) (journal : List EntryState) (index : ℕ) : Type 0 where
  pub entry : EntryState
  pub there : slice_get journal index ≡ Some entry
  pub unnamed : length numbers ≤ entry.who

-- the same of the journals of all shards
abbrev pub AllNamed : List (List ℕ) → List (List EntryState) → Type 0
AllNamed names journals = (shard : ℕ) → shard < length journals
    → EachNamed (names_at names shard) (journal_at journals shard)

pub record IsUnnamed (names : List (List ℕ)) (journals : List (List EntryState)) (place : Unnamed) : Type 0 where
  pub here : place.shard < length journals
  pub lacks : LacksName (names_at names place.shard) (journal_at journals place.shard) place.index

-- why journals aren't merged
abbrev pub IsMergeFault : MergeFault → List (List ℕ) → List (List EntryState) → Type 0
IsMergeFault (Lacking place) names journals = IsUnnamed names journals place
IsMergeFault (NoMemory e) names journals = Unit {0}

-- these shards have these journals
abbrev pub HaveJournals : List (List EntryState) → (ℕ → Journalled) → Type 0
HaveJournals journals shards = (shard : ℕ) → shard < length journals
    → (shards shard).journal ≡ journal_at journals shard

abbrev pub AreJournals : ℕ → (ℕ → Journalled) → Type 0
AreJournals count shards = (shard : ℕ) → shard < count
    → IsJournal (shards shard).places (shards shard).first (shards shard).journal

-- ---- the turns

-- those of all journals, by their stamps: of one stamp, that of the shard with the greater number stands first
abbrev pub merged_turns : List (List EntryState) → List (List ℕ) → List Turn
merged_turns journals names = map bare_turn (merged_stamped (length journals) (name_of names) journals)

-- they are the merge of the journals of any shards that have these
abbrev pub AreMergedTurns : List (List EntryState) → List (List ℕ) → List Turn → Type 0
AreMergedTurns journals names turns = (shards : ℕ → Journalled) → HaveJournals journals shards
    → AreJournals (length journals) shards
    → turns ≡ turns_of (merged_journals (length journals) (name_of names) shards)

-- so where these shards hold all boxes of a world, the turns are a run of it
abbrev pub AreRunOfShards : List (List EntryState) → List (List ℕ) → List Turn → Type 0
AreRunOfShards journals names turns = (shards : ℕ → Journalled) → HaveJournals journals shards
    → (world : WorldState) (homes : Homes) (logs : List (List Entry)) (boxes : List BoxState)
    (rests : List (List Tagged))
    → AreShardsOf world homes shards logs boxes rests
    → AreNamed (length world.boxes) (length journals) (name_of names) homes shards
    → run world turns ≡ Some (record world { boxes = boxes; lanes = rests })
