-- What a round answers, why it ends, and whether there is work for one.
use Rattle.std.specs.Prelude.{◌≡◌, ◌≢◌, ◌⊎◌, Bool, false, IsTrue, ℕ, ◌+◌, ◌<◌, List, [], length, Option, None, Some, IfNone, IfSome, MatchOption, slice_get}
use Rattle.mc_box.specs.BoxEvents.{is_enabled, is_take, is_version_end}
use Rattle.mc_box.specs.Boxes.{BoxState, slot_at}
use Rattle.mc_box.specs.declared.event.Event.{Event}
use Rattle.mc_box.specs.declared.event.Event.TheVariants.{Media, Retry, Shift}
use Rattle.mc_box.specs.declared.event.MediaChange.TheVariants.{Hear}
use Rattle.mc_box.specs.declared.limit.TheConstants.{SHIFT_LIMIT}
use Rattle.mc_port.specs.Entries.{Claimed, count_sent, events_that}
use Rattle.mc_port.specs.declared.stamped.Stamped.{Stamped}
use Rattle.mc_slot.specs.Moves.{slot_take}
use Rattle.mc_worker.specs.Account.{IsAccount, in_at}
use Rattle.mc_worker.specs.Ends.{IsIdle, next_in}
use Rattle.mc_worker.specs.Turns.{AreTurns, BeginsByStimulus, IsUnderWay, is_memory}
use Rattle.mc_worker.specs.declared.limit.TheConstants.{STAMP_LIMIT}
use Rattle.mc_worker.specs.declared.progress.Progress.{Progress}
use Rattle.mc_worker.specs.declared.stop.RoundEnd.{RoundEnd}
use Rattle.mc_worker.specs.declared.stop.Stop.{Stop}
use Rattle.mc_worker.specs.declared.stop.Stop.TheVariants.{Rested, Spent, NoMemory, VersionEnd, Strange}
use Rattle.mc_worker.specs.declared.worker.Worker.{Worker}

-- ---- why a round ends

-- no shift can be made
abbrev pub CantShift : Worker → Type 0
CantShift worker = (is_enabled worker.part Shift ≡ false) ⊎ (worker.shifts ≡ SHIFT_LIMIT)

-- its stamp is too great, or no slot with its place may take it
abbrev pub IsStrange : Worker → ℕ → Stamped → Type 0
IsStrange worker end item =
    (STAMP_LIMIT < item.stamp)
    ⊎ ((slot : ℕ) → slice_get worker.place slot ≡ Some (end, item.tunnel)
    → slot_take (slot_at worker.part slot) item.signal ≡ None)

-- a Hear of this slot, which is at the last version
abbrev pub IsLastHear : BoxState → ℕ → Event → Type 0
IsLastHear box slot (Media (Hear local on)) = (local ≡ slot) × IsTrue (is_version_end box (Media (Hear local on)))
IsLastHear box slot event = ⊥

-- why no turn was made, where the fact that all ends are idle is given
abbrev pub HasStopped : (Idle : Type 0) → Worker → Stop → Type 0
HasStopped Idle worker Rested = (worker.stimuli.items ≡ []) × CantShift worker × Idle
HasStopped Idle worker Spent = ⊥
HasStopped Idle worker (NoMemory error) = Unit {0}
HasStopped Idle worker (VersionEnd slot) =
    MatchOption (slice_get worker.stimuli.items 0) ⊥ (λ event. IsLastHear worker.part slot event)
HasStopped Idle worker (Strange end tunnel) =
    MatchOption (next_in (in_at worker end)) ⊥ (λ item. (item.tunnel ≡ tunnel) × IsStrange worker end item)

-- why a turn wasn't made, where the round has come so far: it has passed all ends where nothing is left
abbrev pub HasStoppedAt : Progress → Worker → Stop → Type 0
HasStoppedAt progress worker stop = HasStopped (progress.passed ≡ length worker.ins.items) worker stop

-- one turn was made, or none, and why; either way the worker goes on with the round
pub record HasTurned (a b : Worker) (s t : Progress) (result : Option Stop) : Type 0 where
  pub turns : AreTurns a b s t
  pub under_way : IsUnderWay b t
  pub ports : length b.ins.items ≡ length a.ins.items
  pub made : IfNone result (t.turns ≡ s.turns + 1)
  pub stopped : IfSome result (λ stop. t.turns ≡ s.turns)
  pub cause : IfSome result (HasStoppedAt t b)

-- nothing is left at any end, and each ring was looked at
abbrev pub AllIdle : Worker → Worker → Type 0
AllIdle a b = (end : ℕ) → end < length b.ins.items → IsIdle (in_at a end) (in_at b end)

-- ---- a round

-- the account of a round with its numbers: the owed retries come first, all of them; or memory was wanting for one of
-- them, and nothing else was made. Where a stimulus waits, the first entry that isn't a retry is the first stimulus
pub record IsRound (retries : Bool) (a b : Worker) (end : RoundEnd) : Type 0 where
  pub log : List Claimed
  pub account : IsAccount retries (is_memory end.stop) a b log
  pub retries_first : (account.below ≡ length a.part.slots) ⊎ (IsTrue (is_memory end.stop) × (account.rest ≡ []))
  pub turns : end.turns ≡ length log
  pub sent : end.sent ≡ count_sent log
  pub took : end.took ≡ length (events_that is_take log)
  pub first : a.stimuli.items ≢ [] → BeginsByStimulus account.rest

-- ---- whether there is work

-- some slot owes a retry
pub record OwesRetry (box : BoxState) : Type 0 where
  pub slot : ℕ
  pub owed : IsTrue (is_enabled box (Retry slot))

-- there is something that a round would do
pub data HasWork (retries : Bool) (worker : Worker) : Type 0 where
  by_stimulus : worker.stimuli.items ≢ [] → HasWork retries worker
  by_shift : worker.shifts < SHIFT_LIMIT → IsTrue (is_enabled worker.part Shift) → HasWork retries worker
  by_signal : (end : ℕ) (item : Stamped) → end < length worker.ins.items → next_in (in_at worker end) ≡ Some item
      → HasWork retries worker
  by_retry : IsTrue retries → OwesRetry worker.part → HasWork retries worker

-- the same before any ring is looked at: a command, a shift, a signal in an inbox, or, where retries are asked for, one
-- that is owed
pub data HasWaitingWork (retries : Bool) (worker : Worker) : Type 0 where
  waiting_stimulus : worker.stimuli.items ≢ [] → HasWaitingWork retries worker
  waiting_shift : worker.shifts < SHIFT_LIMIT → IsTrue (is_enabled worker.part Shift) → HasWaitingWork retries worker
  waiting_signal : (end : ℕ) → (in_at worker end).inbox ≢ [] → HasWaitingWork retries worker
  waiting_retry : IsTrue retries → OwesRetry worker.part → HasWaitingWork retries worker
