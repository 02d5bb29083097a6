-- Entries as C reads them, and as they are replayed.
use Rattle.std.specs.Prelude.{◌≡◌, ◌⊎◌, ◌<◌, ℕ, List, length, map, Option, Some, None}
use Rattle.mc_box.specs.declared.event.Change.TheVariants.{End, Link}
use Rattle.mc_box.specs.declared.event.Event.{Event}
use Rattle.mc_box.specs.declared.event.Event.TheVariants.{Take, Set, Media, Tell, Retry, Shift}
use Rattle.mc_box.specs.declared.event.MediaChange.TheVariants.{Hear, Talk}
use Rattle.mc_slot.specs.declared.Goal.{Goal}
use Rattle.mc_slot.specs.declared.Goal.TheVariants.{Open, Close, Hold}
use Rattle.mc_entry.specs.Reading.{BeginWithNone, BeginsWith}
use Rattle.mc_plain.specs.Views.{flag_number}
use Rattle.mc_plain.specs.declared.asked.PlainEvent.{PlainEvent}
use Rattle.mc_shard.specs.Journals.{EntryState}
use Rattle.mc_shard.specs.Refusals.{RefusesEntry}
use Rattle.mc_shard.specs.Shards.{IsMade}
use Rattle.mc_shard.specs.declared.entry.AtEnd.{AtEnd}
use Rattle.mc_shard.specs.declared.refused.Refused.{Refused}
use Rattle.mc_shard_writer.specs.Writers.{Waits, WriterState}
use Rattle.mc_shard_c.specs.Asking.{no_plain_at, plain_asked, plain_at}
use Rattle.mc_shard_c.specs.Texts.{code_of}
use Rattle.mc_shard_c.specs.Turns.{AreInFront}
use Rattle.mc_shard_c.specs.declared.answer.TheConstants.{MEMORY, NO_ENTRY, NO_ROOM, WAITS}
use Rattle.mc_shard_c.specs.declared.at_end.PlainAtEnd.{PlainAtEnd}
use Rattle.mc_shard_c.specs.declared.entry.PlainEntry.{PlainEntry}

-- ---- numbers

abbrev pub goal_number : Goal → ℕ
goal_number Open = 0
goal_number Close = 1
goal_number Hold = 2

abbrev pub event_numbers : ℕ → ℕ → ℕ → PlainEvent
event_numbers kind first second = record { kind = kind; first = first; second = second }

-- the numbers of an event, as C asks for it, and 7 for a taking
abbrev pub plain_event : Event → PlainEvent
plain_event (Take slot) = event_numbers 7 slot 0
plain_event (Set (End slot goal)) = event_numbers 0 slot (goal_number goal)
plain_event (Set (Link first second)) = event_numbers 1 first second
plain_event (Media (Hear slot on)) = event_numbers 2 slot (flag_number on)
plain_event (Media (Talk slot on)) = event_numbers 3 slot (flag_number on)
plain_event (Tell word) = event_numbers 4 word 0
plain_event (Retry slot) = event_numbers 5 slot 0
plain_event Shift = event_numbers 6 0 0

abbrev pub taken_number : Option AtEnd → ℕ
taken_number None = 0
taken_number (Some at) = 1

abbrev pub plain_taken : Option AtEnd → PlainAtEnd
plain_taken None = no_plain_at
plain_taken (Some at) = plain_at at

-- the numbers of an entry that takes so many bytes
abbrev pub plain_entry : EntryState → ℕ → PlainEntry
plain_entry entry size = record {
  size = size;
  stamp = entry.stamp;
  who = entry.who;
  event = plain_event entry.event;
  asked = plain_asked entry.asked;
  has_taken = taken_number entry.taken;
  taken = plain_taken entry.taken;
}

-- ---- reading

-- the entry that the bytes begin with was read, and what it sent was given
pub record HasRead (bytes : List ℕ) (plain : PlainEntry) (before after : List PlainAtEnd) (count : ℕ) : Type 0 where
  pub entry : EntryState
  pub size : ℕ
  pub begins : BeginsWith bytes entry size
  pub is : plain ≡ plain_entry entry size
  pub given : AreInFront (map plain_at entry.sent) before after count

-- the entry that the bytes begin with sent more than there is room for
pub record ReadsMore (bytes : List ℕ) (room : ℕ) : Type 0 where
  pub entry : EntryState
  pub size : ℕ
  pub begins : BeginsWith bytes entry size
  pub more : room < length entry.sent

-- the codes of bytes that aren't read
pub data WhyNotRead (bytes : List ℕ) (room : ℕ) : ℕ → Type 0 where
  no_entry : BeginWithNone bytes → WhyNotRead bytes room NO_ENTRY
  no_room : ReadsMore bytes room → WhyNotRead bytes room NO_ROOM
  memory : WhyNotRead bytes room MEMORY

-- ---- replaying

-- the entry that the bytes begin with was made again
pub record HasReplayed (old : WriterState) (bytes : List ℕ) (new : WriterState) (size : ℕ) : Type 0 where
  pub entry : EntryState
  pub free : old.made ≡ None
  pub begins : BeginsWith bytes entry size
  pub turn : IsMade old.shard new.shard entry
  pub stands : new.made ≡ None

-- the entry that the bytes begin with isn't made again, for this cause
pub record RefusesReplay (writer : WriterState) (bytes : List ℕ) (why : Refused) : Type 0 where
  pub entry : EntryState
  pub size : ℕ
  pub free : writer.made ≡ None
  pub begins : BeginsWith bytes entry size
  pub refused : RefusesEntry why writer.shard.places writer.shard.state entry

-- the codes of an entry that isn't made again, after which the shard is as it was
pub data WhyNotBegun (writer : WriterState) (bytes : List ℕ) : ℕ → Type 0 where
  waits : Waits writer → WhyNotBegun writer bytes WAITS
  no_entry : writer.made ≡ None → BeginWithNone bytes → WhyNotBegun writer bytes NO_ENTRY

-- and of one after which it is gone
pub data WhyGone (writer : WriterState) (bytes : List ℕ) : ℕ → Type 0 where
  memory : WhyGone writer bytes MEMORY
  refused : (why : Refused) → RefusesReplay writer bytes why → WhyGone writer bytes (code_of why)

-- the shard is as it was, or it is gone, each for its causes
abbrev pub StaysOrGone : WriterState → Option WriterState → List ℕ → ℕ → Type 0
StaysOrGone old new bytes code = ((new ≡ Some old) × WhyNotBegun old bytes code)
    ⊎ ((new ≡ None) × WhyGone old bytes code)
