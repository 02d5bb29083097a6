-- Snapshots as C gets them and hands them in, and what may be cut of a journal.
use Rattle.std.specs.Prelude.{◌≡◌, ◌⊎◌, ◌<◌, ◌≤◌, ℕ, List, [], length, take, None}
use Rattle.mc_entry.specs.Reading.{BeginWithNone, BeginsWith}
use Rattle.mc_shard.specs.Cutting.{MayBeCut}
use Rattle.mc_shard.specs.Journals.{EntryState}
use Rattle.mc_shard.specs.Shards.{LaidShard}
use Rattle.mc_shard_writer.specs.Writers.{Waits, WriterState}
use Rattle.mc_snapshot.specs.Shards.{FitsShard, IsKept, shard_wire}
use Rattle.mc_shard_c.specs.Turns.{AreInFront}
use Rattle.mc_shard_c.specs.declared.answer.TheConstants.{MEMORY, NO_END, NO_ENTRY, NO_ROOM, WAITS}

-- ---- what was taken

-- the end is there, and no entry waits
abbrev pub IsEndSeen : WriterState → ℕ → Type 0
IsEndSeen writer end = (writer.made ≡ None) × (end < length writer.shard.state.taken)

-- no entry waits, but the end isn't there
abbrev pub LacksEnd : WriterState → ℕ → Type 0
LacksEnd writer end = (writer.made ≡ None) × (length writer.shard.state.taken ≤ end)

-- the codes of an end of which it isn't told what was taken there
pub data WhyNotTold (writer : WriterState) (end : ℕ) : ℕ → Type 0 where
  waits : Waits writer → WhyNotTold writer end WAITS
  no_end : LacksEnd writer end → WhyNotTold writer end NO_END

-- ---- saving

-- the bytes of the shard's snapshot were written
pub record IsSaved (shard : LaidShard) (before after : List ℕ) (count : ℕ) : Type 0 where
  pub kept : IsKept shard
  pub fits : FitsShard shard
  pub written : AreInFront (shard_wire shard []) before after count

-- so they were of a shard of which no entry waits
pub record HasSaved (writer : WriterState) (before after : List ℕ) (count : ℕ) : Type 0 where
  pub free : writer.made ≡ None
  pub saved : IsSaved writer.shard before after count

-- the snapshot has so many bytes, and there is less room
pub record NeedsMore (shard : LaidShard) (room count : ℕ) : Type 0 where
  pub needs : count ≡ length (shard_wire shard [])
  pub less : room < count

-- the codes of a snapshot that isn't put into so much room, and how many bytes it is said to need
pub data WhyNotSaved (shard : LaidShard) (room count : ℕ) : ℕ → Type 0 where
  no_room : NeedsMore shard room count → WhyNotSaved shard room count NO_ROOM
  memory : count ≡ 0 → WhyNotSaved shard room count MEMORY

-- and of a shard that isn't saved
pub data WhyNoSnapshot (writer : WriterState) (room count : ℕ) : ℕ → Type 0 where
  waits : Waits writer → count ≡ 0 → WhyNoSnapshot writer room count WAITS
  no_room : writer.made ≡ None → NeedsMore writer.shard room count → WhyNoSnapshot writer room count NO_ROOM
  memory : count ≡ 0 → WhyNoSnapshot writer room count MEMORY

-- ---- loading

-- the bytes are the snapshot of this shard, and of no other, and no entry waits
pub record IsLoaded (bytes : List ℕ) (writer : WriterState) : Type 0 where
  pub free : writer.made ≡ None
  pub is : bytes ≡ shard_wire writer.shard []
  pub one : (shard : LaidShard) → FitsShard shard → bytes ≡ shard_wire shard [] → writer.shard ≡ shard

-- they are the snapshot of none
abbrev pub AreNoSnapshot : List ℕ → Type 0
AreNoSnapshot bytes = (shard : LaidShard) → FitsShard shard → IsKept shard → bytes ≡ shard_wire shard [] → ⊥

-- what was saved isn't refused, and what is loaded from it is the shard that was saved
pub record SavedIsLoaded : Type 0 where
  pub is : (saved loaded : WriterState) (before after : List ℕ) (count : ℕ) → HasSaved saved before after count
      → IsLoaded (take count after) loaded → loaded ≡ saved
  pub reads : (saved : WriterState) (before after : List ℕ) (count : ℕ) → HasSaved saved before after count
      → AreNoSnapshot (take count after) → ⊥

-- ---- cutting

-- 1 where an entry may be cut, and 0 where it may not
abbrev pub SaysMayBeCut : ℕ → List ℕ → EntryState → Type 0
SaysMayBeCut may taken entry = ((may ≡ 1) × MayBeCut taken entry) ⊎ ((may ≡ 0) × (MayBeCut taken entry → ⊥))

-- it was said of the entry that the bytes begin with
pub record HasJudged (bytes taken : List ℕ) (may size : ℕ) : Type 0 where
  pub entry : EntryState
  pub begins : BeginsWith bytes entry size
  pub says : SaysMayBeCut may taken entry

-- the codes of bytes of which it isn't said
pub data WhyNotJudged (bytes : List ℕ) : ℕ → Type 0 where
  no_entry : BeginWithNone bytes → WhyNotJudged bytes NO_ENTRY
  memory : WhyNotJudged bytes MEMORY
