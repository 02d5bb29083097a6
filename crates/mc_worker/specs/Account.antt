-- The account of a worker's turns: what it has made, taken and sent, by the entries of its log.
use Rattle.std.specs.Prelude.{◌≡◌, ◌⊎◌, ◌<◌, Bool, false, IsTrue, ℕ, suc, zero, ◌+◌, ◌≤◌, All, List, [], ◌∷◌, ◌++◌, map, length, if◌then◌else◌, Some}
use Rattle.std.specs.List.{AllByRecursion}
use Rattle.mc_box.specs.BoxEvents.{is_command, is_enabled, is_retry, is_shift}
use Rattle.mc_box.specs.BoxSound.{IsSoundBox}
use Rattle.mc_box.specs.Boxes.{BoxState}
use Rattle.mc_box.specs.declared.event.Event.{Event}
use Rattle.mc_box.specs.declared.event.Event.TheVariants.{Retry}
use Rattle.mc_box.specs.declared.limit.TheConstants.{SHIFT_LIMIT}
use Rattle.mc_lane.specs.Queue.{Queue}
use Rattle.mc_port.specs.Entries.{AreMade, AreStamped, Claimed, Entry, claim_of, entries_of, event_of, events_that, last_stamp}
use Rattle.mc_port.specs.Tunnels.{FitsPlace, log_sends, log_takes, tunnels_at}
use Rattle.mc_port.specs.Ends.{in_ring, out_ring}
use Rattle.mc_signal.specs.declared.Signal.{Signal}
use Rattle.mc_worker.specs.Ends.{InAccount, InEnd, OutAccount, OutEnd, in_end, out_end}
use Rattle.mc_worker.specs.Places.{AreAtEnds}
use Rattle.mc_worker.specs.declared.limit.TheConstants.{STAMP_LIMIT}
use Rattle.mc_worker.specs.declared.logged.Logged.{Logged}
use Rattle.mc_worker.specs.declared.worker.Worker.{Worker}

-- a worker's channel ends
abbrev pub out_at : Worker → ℕ → OutEnd
out_at worker end = out_end worker.outs.items worker.outboxes.boxes end

abbrev pub in_at : Worker → ℕ → InEnd
in_at worker end = in_end worker.ins.items worker.inboxes end

-- what the log keeps of an entry
abbrev pub logged : Claimed → Logged
logged claimed = record { stamp = claimed.entry.stamp; event = claimed.entry.event }

-- what an entry took has a stamp within the limit
abbrev pub ClaimsWithin : Claimed → Type 0
ClaimsWithin claimed = claim_of claimed.entry.taken claimed.claim ≤ STAMP_LIMIT

-- these entries lead from the one worker to the other: their events make the one box into the other; each stamp is one
-- more than the greater of the one before and of what was taken; at each channel end what came was taken and what was
-- sent went away, in order; the stimuli were used in order; and no ring was exchanged
pub record IsWork (a b : Worker) (log : List Claimed) : Type 0 where
  pub made : AreMade a.part (entries_of log) b.part
  pub stamps : AreStamped a.stamp log
  pub last : b.stamp ≡ last_stamp a.stamp log
  pub claims : AllByRecursion ClaimsWithin log
  pub fits : AllByRecursion (λ claimed. FitsPlace a.place claimed.entry.event claimed.entry.taken) log
  pub ins : (end : ℕ) → InAccount (in_at a end) (in_at b end) (log_takes (tunnels_at a.place end) log)
  pub outs : (end : ℕ) → OutAccount (out_at a end) (out_at b end) (log_sends (tunnels_at a.place end) (entries_of log))
  pub stimuli : events_that is_command log ++ b.stimuli.items ≡ a.stimuli.items
  pub shifts : b.shifts ≡ a.shifts + length (events_that is_shift log)
  pub logs : b.log.items ≡ a.log.items ++ map logged log
  pub place : b.place ≡ a.place
  pub in_rings : map in_ring b.ins.items ≡ map in_ring a.ins.items
  pub out_rings : map out_ring b.outs.items ≡ map out_ring a.outs.items

-- ---- with retries

-- the retry of a slot that owes one
abbrev pub owed_retry_of : BoxState → ℕ → List Event
owed_retry_of box slot = if is_enabled box (Retry slot) then Retry slot ∷ [] else []

-- one retry for each slot below a number that owes one
abbrev pub owed_below : BoxState → ℕ → List Event
owed_below box zero = []
owed_below box (suc slot) = owed_below box slot ++ owed_retry_of box slot

-- the retries that are to be made at the slots below a number
abbrev pub retries_below : Bool → BoxState → ℕ → List Event
retries_below retries box below = if retries then owed_below box below else []

-- and they begin with a retry of each slot that owed one, where retries are asked for, up to a stop for memory; no
-- other retry comes, and the shifts stay within their limit. It is said of one round or of several; of one, IsRound
-- says that nothing comes after retries that were cut short
pub record IsAccount (retries cut : Bool) (a b : Worker) (log : List Claimed) : Type 0 where
  pub work : IsWork a b log
  pub first : List Claimed
  pub rest : List Claimed
  pub parts : log ≡ first ++ rest
  pub below : ℕ
  pub retried : map event_of first ≡ retries_below retries a.part below
  pub whole : IsTrue cut ⊎ (below ≡ length a.part.slots)
  pub no_other : events_that is_retry rest ≡ []
  pub few_shifts : b.shifts ≤ SHIFT_LIMIT

-- the accounts of two calls, between which only further stimuli came, and of which the second makes no retries, are one
-- account
abbrev pub JoinAccounts : Type 0
JoinAccounts =
    (retries cut cut_2 : Bool) (a b c : Worker) (before between : Queue Event) (added : List Event)
    (log log_2 : List Claimed)
    → before.items ≡ a.stimuli.items ++ added → between.items ≡ b.stimuli.items ++ added
    → IsAccount retries cut a b log → IsAccount false cut_2 (record b { stimuli = between }) c log_2
    → IsAccount retries cut (record a { stimuli = before }) c (log ++ log_2)

-- ---- where signals go

-- a slot has a tunnel at a channel end that is there
pub record HasEnd (count : ℕ) (places : List (ℕ × ℕ)) (slot : ℕ) : Type 0 where
  pub end : ℕ
  pub tunnel : ℕ
  pub there : end < count
  pub at : tunnels_at places end slot ≡ Some tunnel

-- where each slot of a sound box has a place, at an end that is there, each signal that made entries send is of a slot
-- with such an end: so it is in what they send there
abbrev pub SendingsHaveEnds : Type 0
SendingsHaveEnds = (count : ℕ) (places : List (ℕ × ℕ)) (box last : BoxState) (entries : List Entry)
    → IsSoundBox box → length places ≡ length box.slots → AreAtEnds count places → AreMade box entries last
    → All (λ (entry : Entry). All (λ (sending : ℕ × Signal). HasEnd count places sending.0) entry.sent) entries
