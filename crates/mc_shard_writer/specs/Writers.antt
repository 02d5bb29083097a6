-- A shard whose entries are written one at a time.
use Rattle.std.specs.Prelude.{◌≡◌, ℕ, ◌<◌, ◌^◌, length, Option, Some, None}
use Rattle.mc_shard.specs.Journals.{EntryState}
use Rattle.mc_shard.specs.Shards.{IsMade, LaidShard}
use Rattle.mc_shard.specs.declared.refused.Refused.{Refused}
use Rattle.mc_shard_writer.specs.declared.refused.NoTurn.{NoTurn}
use Rattle.mc_shard_writer.specs.declared.refused.NoTurn.TheVariants.{Waits as StillWaits, Refused as RefusedBy}

-- a shard, and the entry of its last turn as long as that doesn't stand
pub record WriterState : Type 0 where
  pub shard : LaidShard
  pub made : Option EntryState

abbrev pub writer_of : LaidShard → Option EntryState → WriterState
writer_of shard made = record { shard = shard; made = made }

-- what it sent can be counted in the form of an entry
abbrev pub FitsForm : Option EntryState → Type 0
FitsForm None = Unit {0}
FitsForm (Some entry) = length entry.sent < 2 ^ 16

-- an entry doesn't stand yet
pub record Waits (writer : WriterState) : Type 0 where
  pub entry : EntryState
  pub made : writer.made ≡ Some entry

-- a turn was made where no entry waited, and its entry, which is one of these, waits now
pub record IsMadeBy (old new : WriterState) (Is : EntryState → Type 0) : Type 0 where
  pub entry : EntryState
  pub none : old.made ≡ None
  pub waits : new.made ≡ Some entry
  pub turn : IsMade old.shard new.shard entry
  pub is : Is entry

-- why no turn is made: an entry waits, or none does and the shard makes none
abbrev pub Hinders : NoTurn → WriterState → (Refused → Type 0) → Type 0
Hinders StillWaits writer Why = Waits writer
Hinders (RefusedBy why) writer Why = (writer.made ≡ None) × Why why
