-- The moments of a segment that may be its last rest, and the retries after them.
use Rattle.std.specs.Prelude.{◌≡◌, ◌↔◌, ◌<◌, ◌≤◌, ◌+◌, ◌-◌, ◌==◌, ◌&&◌, ◌++◌, nat_le, if◌then◌else◌, ℕ, Bool, List, [], ◌∷◌, length, max, take, drop, count_by, slice_index_or, slice_set, IsTrue, Option, Some, None}
use Rattle.std.specs.List.{list_all}
use Rattle.mc_box.specs.BoxEvents.{is_retry}
use Rattle.mc_box.specs.declared.event.Event.{Event}
use Rattle.mc_box.specs.declared.event.Event.TheVariants.{Retry}
use Rattle.mc_box.specs.declared.event.Turn.{Turn}
use Rattle.mc_model.specs.Settles.{commands_of, is_retry_of, rests, takes_or_retries}
use Rattle.mc_model.specs.Steps.{after}
use Rattle.mc_model.specs.Worlds.{WorldState, number, place, slot_count}
use Rattle.mc_replay.specs.Counts.{owed_count}
use Rattle.mc_replay.specs.declared.moments.QuietMoment.{QuietMoment}
use Rattle.mc_replay.specs.declared.retries.Retries.{Retries}

-- ---- moments

-- how many of these turns are retries
abbrev pub retry_count : List Turn → ℕ
retry_count turns = count_by (λ turn. is_retry turn.event) turns

-- after so many of the turns the world rests, the batch is used up, and besides only Takes and retries come
pub record IsMoment (world : WorldState) (batch turns : List Turn) (moment : ℕ) : Type 0 where
  pub within : moment ≤ length turns
  pub at_rest : IsTrue (rests (after world (take moment turns)))
  pub used_up : (who : ℕ) → commands_of who (take moment turns) ≡ commands_of who batch
  pub besides : IsTrue (list_all (λ turn. takes_or_retries turn.event) (drop moment turns))

-- what is kept of such a moment, where so many retries came before the segment: how many have come until then, and how
-- many slots owed one then
pub record IsKeptOf (world : WorldState) (turns : List Turn) (before moment : ℕ) (kept : QuietMoment) : Type 0 where
  pub retries : kept.retries ≡ before + retry_count (take moment turns)
  pub owed : kept.owed ≡ owed_count (after world (take moment turns))

abbrev pub no_moment : QuietMoment
no_moment = record { retries = 0; owed = 0 }

-- the present after those that are kept, where it is one
abbrev pub with_present : Bool → QuietMoment → List QuietMoment → List QuietMoment
with_present is_one present moments = if is_one then moments ++ present ∷ [] else moments

-- each moment is kept, and no other
pub record AreMoments (world : WorldState) (batch turns : List Turn) (before : ℕ)
    (moments : List QuietMoment) : Type 0 where
  pub each : (i : ℕ) → i < length moments
      → (moment : ℕ) × IsMoment world batch turns moment
      × IsKeptOf world turns before moment (slice_index_or moments i no_moment)
  pub all : (moment : ℕ) → IsMoment world batch turns moment
      → (i : ℕ) × (i < length moments) × IsKeptOf world turns before moment (slice_index_or moments i no_moment)

-- ---- retries

-- no slot was retried twice after a moment, and as many slots were retried as owed one then
abbrev pub serves : QuietMoment → Retries → Bool
serves moment retries = nat_le retries.low moment.retries && retries.made - moment.retries == moment.owed

-- no slot is retried twice among these turns
abbrev pub AreRetriedOnce : List Turn → Type 0
AreRetriedOnce turns = (who local : ℕ) → count_by (is_retry_of who local) turns ≤ 1

-- how many of these turns are the retry of a slot, by its number
abbrev pub retries_at : WorldState → ℕ → List Turn → ℕ
retries_at world s turns = count_by (is_retry_of (place world s).0 (place world s).1) turns

-- the retries of a segment, where so many came before it: of each slot the number of its last one, so that it is known
-- whether one came after any moment, and the greatest number of a slot that was retried again, so that it is known
-- whether some slot was retried twice after it
pub record AreRetries (world : WorldState) (turns : List Turn) (before : ℕ) (retries : Retries) : Type 0 where
  pub made : retries.made ≡ before + retry_count turns
  pub last : (moment s : ℕ) → moment ≤ length turns → s < slot_count world
      → (before + retry_count (take moment turns) < slice_index_or retries.last.items s 0) ↔
      (1 ≤ retries_at world s (drop moment turns))
  pub low : (moment : ℕ) → moment ≤ length turns
      → (retries.low ≤ before + retry_count (take moment turns)) ↔ AreRetriedOnce (drop moment turns)

-- no slot has a number beyond those of the retries so far
pub record AreNumbered (count : ℕ) (retries : Retries) : Type 0 where
  pub slots : length retries.last.items ≡ count
  pub last : (s : ℕ) → slice_index_or retries.last.items s 0 ≤ retries.made
  pub low : retries.low ≤ retries.made

-- the slot with this number was retried
pub record WasRetried (old new : Retries) (s : ℕ) : Type 0 where
  pub made : new.made ≡ old.made + 1
  pub last : new.last.items ≡ slice_set old.last.items s (old.made + 1)
  pub low : new.low ≡ max old.low (slice_index_or old.last.items s 0)

-- what a retry changes, by the number of its slot
abbrev pub WasRetriedAt : Retries → Retries → Option ℕ → Type 0
WasRetriedAt old new None = new ≡ old
WasRetriedAt old new (Some s) = WasRetried old new s

-- what a turn changes of the retries
abbrev pub CountsRetry : WorldState → Retries → Retries → ℕ → Event → Type 0
CountsRetry world old new who (Retry local) = WasRetriedAt old new (number world who local)
CountsRetry world old new who event = new ≡ old
