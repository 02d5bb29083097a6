-- Why a shard makes no turn.
use Rattle.std.specs.Prelude.{◌≡◌, ◌⊎◌, ℕ, ◌+◌, ◌<◌, ◌≤◌, true, false, List, length, max, slice_get, take, Option, Some, None}
use Rattle.mc_box.specs.BoxEvents.{box_event, is_enabled, is_take, is_version_end}
use Rattle.mc_box.specs.declared.event.Event.{Event}
use Rattle.mc_box.specs.declared.event.Event.TheVariants.{Take}
use Rattle.mc_shard.specs.Journals.{EntryState}
use Rattle.mc_shard.specs.Shards.{LaidShard}
use Rattle.mc_shard.specs.States.{FitsAsked, Follows, IsJournal, MayFollow, Places, ShardState, box_in, count_at, last_request, places_of, reached_at, state_after}
use Rattle.mc_shard.specs.declared.asking.AskedOrder.{AskedOrder}
use Rattle.mc_shard.specs.declared.asking.AskedOrder.TheVariants.{Had, Next, TooEarly, Unknown}
use Rattle.mc_shard.specs.declared.entry.Asked.{Asked}
use Rattle.mc_shard.specs.declared.entry.AtEnd.{AtEnd}
use Rattle.mc_shard.specs.declared.limit.TheConstants.{LAST_STAMP}
use Rattle.mc_shard.specs.declared.refused.Refused.{Refused}
use Rattle.mc_shard.specs.declared.refused.Refused.TheVariants.{Ahead, Digest, NoAsker, NoBox, NoEnd, NoMemory, NoTunnel, NotEnabled, Stamp, Unlawful, VersionEnd}

-- ---- why a request makes no turn

-- the event can't happen to the box now
pub record CannotAct (shard : LaidShard) (who : ℕ) (event : Event) : Type 0 where
  pub here : who < length shard.state.boxes
  pub disabled : is_enabled (box_in shard.state who) event ≡ false

-- it can, but a version is past the last
pub record LacksVersion (shard : LaidShard) (who : ℕ) (event : Event) : Type 0 where
  pub here : who < length shard.state.boxes
  pub enabled : is_enabled (box_in shard.state who) event ≡ true
  pub last : is_version_end (box_in shard.state who) event ≡ true

abbrev pub HindersAct : Refused → LaidShard → ℕ → Event → Type 0
HindersAct NoMemory shard who event = Unit {0}
HindersAct NoBox shard who event = length shard.state.boxes ≤ who
HindersAct NotEnabled shard who event = CannotAct shard who event
HindersAct VersionEnd shard who event = LacksVersion shard who event
HindersAct why shard who event = ⊥

-- a request that was made already
abbrev pub WasAsked : List ℕ → Option Asked → Type 0
WasAsked last None = ⊥
WasAsked last (Some asked) = (asked.asker < length last) × (asked.number ≤ last_request last asked.asker)

-- its asker isn't there
abbrev pub LacksAsker : List ℕ → Option Asked → Type 0
LacksAsker last None = ⊥
LacksAsker last (Some asked) = length last ≤ asked.asker

-- it is a later one than the next of its asker
abbrev pub IsAskedAhead : List ℕ → Option Asked → Type 0
IsAskedAhead last None = ⊥
IsAskedAhead last (Some asked) = (asked.asker < length last) × (last_request last asked.asker + 1 < asked.number)

-- how a request stands to the last of its asker
abbrev pub IsAskedOrder : AskedOrder → List ℕ → Option Asked → Type 0
IsAskedOrder Next last asked = FitsAsked last asked None
IsAskedOrder Had last asked = WasAsked last asked
IsAskedOrder TooEarly last asked = IsAskedAhead last asked
IsAskedOrder Unknown last asked = LacksAsker last asked

-- a request is the next of its asker, and no Take; and there must be a stamp above the one that the asker knows of
abbrev pub HindersAsked : Refused → LaidShard → Option Asked → ℕ → Event → ℕ → Type 0
HindersAsked NoAsker shard asked who event known = LacksAsker shard.state.asked asked
HindersAsked Ahead shard asked who event known = IsAskedAhead shard.state.asked asked
HindersAsked NotEnabled shard asked who event known = (is_take event ≡ true) ⊎ CannotAct shard who event
HindersAsked Stamp shard asked who event known = LAST_STAMP ≤ max shard.state.stamp known
HindersAsked why shard asked who event known = HindersAct why shard who event

-- ---- why a signal isn't taken

-- its slot may not take it now
abbrev pub CannotTake : LaidShard → ℕ → ℕ → AtEnd → Type 0
CannotTake shard who slot at = box_event (box_in shard.state who) (Take slot) (Some at.item.signal) ≡ None

-- the same of one slot
abbrev pub HindersSlot : Refused → LaidShard → ℕ → ℕ → AtEnd → Type 0
HindersSlot NoMemory shard who slot at = Unit {0}
HindersSlot Unlawful shard who slot at = CannotTake shard who slot at
HindersSlot why shard who slot at = ⊥

-- the slot is at the signal's place
abbrev pub IsAt : LaidShard → ℕ → ℕ → AtEnd → Type 0
IsAt shard who slot at = slice_get (places_of shard.places who) slot ≡ Some (at.end, at.item.tunnel)

-- no slot is there
abbrev pub HasNoSlot : LaidShard → AtEnd → Type 0
HasNoSlot shard at = (who slot : ℕ) → who < length shard.places → IsAt shard who slot at → ⊥

-- one is, and may not take it now
pub record HasUnfitSlot (shard : LaidShard) (at : AtEnd) : Type 0 where
  pub who : ℕ
  pub slot : ℕ
  pub there : IsAt shard who slot at
  pub cannot : CannotTake shard who slot at

-- it is the next of its lane by its number, and not by its digest
pub record HasOtherDigest (shard : LaidShard) (at : AtEnd) : Type 0 where
  pub number : at.item.number ≡ count_at shard.state.taken at.end + 1
  pub differs : Follows (reached_at shard.state.taken at.end).digest at.item → ⊥

abbrev pub HindersTake : Refused → LaidShard → AtEnd → Type 0
HindersTake NoMemory shard at = Unit {0}
HindersTake NoEnd shard at = length shard.state.taken ≤ at.end
HindersTake Ahead shard at = count_at shard.state.taken at.end + 1 < at.item.number
HindersTake Digest shard at = HasOtherDigest shard at
HindersTake Stamp shard at = LAST_STAMP ≤ max shard.state.stamp at.item.stamp
HindersTake NoTunnel shard at = HasNoSlot shard at
HindersTake Unlawful shard at = HasUnfitSlot shard at
HindersTake why shard at = ⊥

-- ---- why an entry isn't made again

-- memory ran out, its stamp is past the last one, or it may not follow
abbrev pub RefusesEntry : Refused → Places → ShardState → EntryState → Type 0
RefusesEntry NoMemory places state entry = Unit {0}
RefusesEntry Stamp places state entry = LAST_STAMP < entry.stamp
RefusesEntry why places state entry = MayFollow places state entry → ⊥

-- the entries before this one are a journal of the shard, and this one is refused after them
pub record RefusesAt (places : Places) (state : ShardState) (entries : List EntryState) (index : ℕ)
    (why : Refused) : Type 0 where
  pub before : IsJournal places state (take index entries)
  pub entry : EntryState
  pub there : slice_get entries index ≡ Some entry
  pub refused : RefusesEntry why places (state_after state (take index entries)) entry
