-- How journals grow, what no later entry can undo, and what a cut keeps.
use Rattle.std.specs.Prelude.{◌≡◌, ℕ, ◌<◌, List, [], ◌∷◌, ◌++◌, drop, length, is_some, true}
use Rattle.std.specs.List.{AllByRecursion}
use Rattle.mc_shard.specs.Cutting.{IsCuttable, taken_for_good}
use Rattle.mc_shard.specs.Journals.{AreAllAmong, AreNumbered, EntryState, IsAmong, sent_at, taken_at}
use Rattle.mc_shard.specs.States.{IsJournal, MayFollow, Places, ShardState, after_entry, count_at, state_after}
use Rattle.mc_shard.specs.declared.entry.Numbered.{Numbered}
use Rattle.mc_shard_laws.specs.Together.{Journalled}

-- with an entry that may follow a journal is a journal again, and its state is the one after that entry
abbrev pub JournalsGrow : Type 0
JournalsGrow = (places : Places) (first : ShardState) (entries : List EntryState) (entry : EntryState)
    → IsJournal places first entries → MayFollow places (state_after first entries) entry
    → IsJournal places first (entries ++ entry ∷ [])
    × (state_after first (entries ++ entry ∷ []) ≡ after_entry (state_after first entries) entry)

-- each front of a journal is a journal, and so is what comes after it, from the state that the front tells
abbrev pub JournalsSplit : Type 0
JournalsSplit = (places : Places) (first : ShardState) (entries more : List EntryState)
    → IsJournal places first (entries ++ more)
    → IsJournal places first entries × IsJournal places (state_after first entries) more
    × (state_after first (entries ++ more) ≡ state_after (state_after first entries) more)

-- ---- quiet cuts

-- what is taken at an end comes from this end of this shard, and nothing was sent or taken there before the journals
pub record ComesFrom (shards : ℕ → Journalled) (to into : ℕ) : Type 0 where
  pub from : ℕ
  pub out : ℕ
  pub out_there : out < length (shards from).first.sent
  pub into_there : into < length (shards to).first.taken
  pub none_sent : count_at (shards from).first.sent out ≡ 0
  pub none_taken : count_at (shards to).first.taken into ≡ 0
  pub has_sending : AreAllAmong (taken_at into (shards to).journal) (sent_at out (shards from).journal)

-- journals that lead on from a cut: the entries of each shard before it and after it, in which each take has its
-- sending
pub record LeadsOn (shards : ℕ → Journalled) (before after : ℕ → List EntryState) : Type 0 where
  pub parts : (shard : ℕ) → (shards shard).journal ≡ before shard ++ after shard
  pub journals : (shard : ℕ) → IsJournal (shards shard).places (shards shard).first (shards shard).journal
  pub joined : (to into : ℕ) (item : Numbered) → IsAmong (taken_at into (shards to).journal) item
      → ComesFrom shards to into

-- each lane was taken to its end
abbrev pub IsQuietCut : (shards : ℕ → Journalled) → (ℕ → List EntryState) → Type 0
IsQuietCut shards before = (to into : ℕ) (c : ComesFrom shards to into)
    → taken_at into (before to) ≡ sent_at c.out (before c.from)

abbrev pub TakesOne : EntryState → Type 0
TakesOne entry = is_some entry.taken ≡ true

-- a quiet cut, whenever its parts were read, stays so until an event is made that takes nothing: there are no entries
-- after it that all take something
abbrev pub QuietStays : Type 0
QuietStays = (shards : ℕ → Journalled) (before after : ℕ → List EntryState) → LeadsOn shards before after
    → IsQuietCut shards before → ((shard : ℕ) → AllByRecursion TakesOne (after shard))
    → (shard : ℕ) → after shard ≡ []

-- ---- cuts

-- what is kept of the entries that a snapshot has, and the rest of the journal, which it hasn't, are all that is needed
-- of the journal, where neighbours' snapshots have taken so many signals at each end
pub record KeepsTheRest (places : Places) (first : ShardState) (had rest kept : List EntryState)
    (taken : List ℕ) : Type 0 where
  -- from the snapshot's state the rest leads where the whole leads
  pub journal : IsJournal places (state_after first had) rest
  pub leads : state_after (state_after first had) rest ≡ state_after first (had ++ rest)
  -- each signal that wasn't taken for good is there still
  pub sent : (end : ℕ) (item : Numbered) → IsAmong (sent_at end (had ++ rest)) item
      → taken_for_good taken end < item.number → IsAmong (sent_at end (kept ++ rest)) item
  -- so whatever a neighbour takes after its snapshot has its sending there
  pub has_sending : (end : ℕ) (items : List Numbered) → AreNumbered (taken_for_good taken end) items
      → AreAllAmong items (sent_at end (had ++ rest)) → AreAllAmong items (sent_at end (kept ++ rest))

-- of the entries that a snapshot has, as many as are cuttable may be cut
abbrev pub CutsKeepTheRest : Type 0
CutsKeepTheRest = (places : Places) (first : ShardState) (had rest : List EntryState) (taken : List ℕ) (count : ℕ)
    → IsJournal places first (had ++ rest) → IsCuttable taken had count
    → KeepsTheRest places first had rest (drop count had) taken
