-- What was done where a turn is asked for, written, or stands, and why nothing was.
use Rattle.std.specs.Prelude.{◌≡◌, ◌⊎◌, ◌<◌, ◌≤◌, ◌++◌, ℕ, false, List, [], drop, length, map, Some, None}
use Rattle.mc_box.specs.declared.event.Event.{Event}
use Rattle.mc_plain.specs.Asked.{event_of}
use Rattle.mc_plain.specs.Numbers.{is_signal}
use Rattle.mc_plain.specs.declared.asked.PlainEvent.{PlainEvent}
use Rattle.mc_shard.specs.Journals.{EntryState}
use Rattle.mc_shard.specs.Refusals.{HindersAsked, HindersTake, WasAsked}
use Rattle.mc_shard.specs.Shards.{IsOf, IsTaking, stamp_above}
use Rattle.mc_shard.specs.States.{count_at}
use Rattle.mc_shard.specs.declared.entry.AtEnd.{AtEnd}
use Rattle.mc_shard.specs.declared.refused.Refused.{Refused}
use Rattle.mc_entry.specs.Wire.{entry_wire}
use Rattle.mc_shard_writer.specs.Writers.{IsMadeBy, Waits, WriterState, writer_of}
use Rattle.mc_shard_c.specs.Asking.{SaysAt, asked_of, is_asked, plain_at}
use Rattle.mc_shard_c.specs.Texts.{code_of}
use Rattle.mc_shard_c.specs.declared.answer.TheConstants.{INVALID, MEMORY, NO_ROOM, NONE_WAITS, WAITS}
use Rattle.mc_shard_c.specs.declared.at_end.PlainAsked.{PlainAsked}
use Rattle.mc_shard_c.specs.declared.at_end.PlainAtEnd.{PlainAtEnd}

-- a turn was made, which is told by 1, or none was, which is told by 0
abbrev pub IsMadeOrNot : ℕ → Type 0 → Type 0 → Type 0
IsMadeOrNot made Made Not = ((made ≡ 1) × Made) ⊎ ((made ≡ 0) × Not)

-- ---- requests

-- the turn of the event that the numbers say was made, or had been already
pub record HasRequested (old : WriterState) (asked : PlainAsked) (who : ℕ) (plain : PlainEvent) (known : ℕ)
    (new : WriterState) (made : ℕ) : Type 0 where
  pub event : Event
  pub says : event_of plain ≡ Some event
  pub free : old.made ≡ None
  pub done : IsMadeOrNot made
      (IsMadeBy old new (λ entry. IsOf entry (asked_of asked) who event None (stamp_above old.shard known)))
      ((new ≡ old) × WasAsked old.shard.state.asked (asked_of asked))

-- the shard makes no turn of the event that the numbers say, for this cause
pub record RefusesRequest (writer : WriterState) (asked : PlainAsked) (who : ℕ) (plain : PlainEvent) (known : ℕ)
    (why : Refused) : Type 0 where
  pub event : Event
  pub says : event_of plain ≡ Some event
  pub free : writer.made ≡ None
  pub hinders : HindersAsked why writer.shard (asked_of asked) who event known

-- the codes of a request that made no turn
pub data WhyNotRequested (writer : WriterState) (asked : PlainAsked) (who : ℕ) (plain : PlainEvent)
    (known : ℕ) : ℕ → Type 0 where
  waits : Waits writer → WhyNotRequested writer asked who plain known WAITS
  no_asked : is_asked asked ≡ false → WhyNotRequested writer asked who plain known INVALID
  no_event : event_of plain ≡ None → WhyNotRequested writer asked who plain known INVALID
  refused : (why : Refused) → RefusesRequest writer asked who plain known why
      → WhyNotRequested writer asked who plain known (code_of why)

-- ---- signals that arrive

-- the signal that the numbers say was taken, or had been already
pub record HasArrived (old : WriterState) (plain : PlainAtEnd) (new : WriterState) (made : ℕ) : Type 0 where
  pub at : AtEnd
  pub says : SaysAt plain at
  pub free : old.made ≡ None
  pub done : IsMadeOrNot made
      (IsMadeBy old new (λ entry. IsTaking entry at (stamp_above old.shard at.item.stamp)))
      ((new ≡ old) × (at.item.number ≤ count_at old.shard.state.taken at.end))

-- the shard doesn't take the signal that the numbers say, for this cause
pub record RefusesSignal (writer : WriterState) (plain : PlainAtEnd) (why : Refused) : Type 0 where
  pub at : AtEnd
  pub says : SaysAt plain at
  pub free : writer.made ≡ None
  pub hinders : HindersTake why writer.shard at

-- the codes of a signal that isn't taken
pub data WhyNotArrived (writer : WriterState) (plain : PlainAtEnd) : ℕ → Type 0 where
  waits : Waits writer → WhyNotArrived writer plain WAITS
  no_signal : is_signal plain.signal ≡ false → WhyNotArrived writer plain INVALID
  refused : (why : Refused) → RefusesSignal writer plain why → WhyNotArrived writer plain (code_of why)

-- ---- entries that wait

-- these are in front of the buffer, and what was after them is still there
abbrev pub AreInFront : {T : Type 0} → List T → List T → List T → ℕ → Type 0
AreInFront {T} items before after count = (after ≡ items ++ drop (length items) before) × (count ≡ length items)

-- the bytes of the entry that waits were written
pub record HasWritten (writer : WriterState) (before after : List ℕ) (count : ℕ) : Type 0 where
  pub entry : EntryState
  pub waits : writer.made ≡ Some entry
  pub written : AreInFront (entry_wire entry []) before after count

-- the entry that waits has more bytes than there is room for
pub record NeedsRoom (writer : WriterState) (room : ℕ) : Type 0 where
  pub entry : EntryState
  pub waits : writer.made ≡ Some entry
  pub more : room < length (entry_wire entry [])

-- the codes of so many bytes that weren't put into so much room
pub data WhyNotPut (size room : ℕ) : ℕ → Type 0 where
  no_room : room < size → WhyNotPut size room NO_ROOM
  memory : WhyNotPut size room MEMORY

-- the codes of an entry that wasn't written
pub data WhyNotWritten (writer : WriterState) (room : ℕ) : ℕ → Type 0 where
  none_waits : writer.made ≡ None → WhyNotWritten writer room NONE_WAITS
  no_room : NeedsRoom writer room → WhyNotWritten writer room NO_ROOM
  memory : WhyNotWritten writer room MEMORY

-- the entry that waited stands, and what it sent was given
pub record HasStood (old new : WriterState) (before after : List PlainAtEnd) (count : ℕ) : Type 0 where
  pub entry : EntryState
  pub waited : old.made ≡ Some entry
  pub stands : new ≡ writer_of old.shard None
  pub given : AreInFront (map plain_at entry.sent) before after count

-- the entry that waits sent more than there is room for
pub record SentMore (writer : WriterState) (room : ℕ) : Type 0 where
  pub entry : EntryState
  pub waits : writer.made ≡ Some entry
  pub more : room < length entry.sent

-- the codes of an entry that doesn't stand yet
pub data WhyNotStood (writer : WriterState) (room : ℕ) : ℕ → Type 0 where
  none_waits : writer.made ≡ None → WhyNotStood writer room NONE_WAITS
  no_room : SentMore writer room → WhyNotStood writer room NO_ROOM
