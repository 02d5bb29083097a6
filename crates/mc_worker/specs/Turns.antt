-- What a round's turns say of themselves.
use Rattle.std.specs.Prelude.{◌≡◌, ◌≢◌, Bool, true, false, IsTrue, ℕ, ◌+◌, ◌*◌, ◌≤◌, ◌<◌, List, [], ◌∷◌, map, max, length, slice_get, Some, None}
use Rattle.mc_box.specs.BoxEvents.{is_command, is_enabled, is_retry, is_shift, is_take}
use Rattle.mc_box.specs.Boxes.{BoxState}
use Rattle.mc_box.specs.declared.event.Event.{Event}
use Rattle.mc_box.specs.declared.event.Event.TheVariants.{Take}
use Rattle.mc_box.specs.declared.limit.TheConstants.{SHIFT_LIMIT, SLOT_LIMIT}
use Rattle.mc_port.specs.Entries.{Claimed, count_sent, event_of, events_that}
use Rattle.mc_port.specs.Ends.{without_stamp}
use Rattle.mc_port.specs.declared.stamped.Stamped.{Stamped}
use Rattle.mc_signal.specs.declared.Signal.{Signal}
use Rattle.mc_worker.specs.Account.{IsWork, in_at, owed_below}
use Rattle.mc_worker.specs.Boxes.{AreEmpty}
use Rattle.mc_worker.specs.Ends.{Passed, next_in}
use Rattle.mc_worker.specs.Ready.{IsReady}
use Rattle.mc_worker.specs.declared.limit.TheConstants.{FIRST_STAMP_LIMIT, TURN_LIMIT}
use Rattle.mc_worker.specs.declared.progress.Progress.{Progress}
use Rattle.mc_worker.specs.declared.stop.Stop.{Stop}
use Rattle.mc_worker.specs.declared.stop.Stop.TheVariants.{NoMemory}
use Rattle.mc_worker.specs.declared.worker.Worker.{Worker}

-- ---- one turn

-- taking an item by a slot
abbrev pub take_entry : Worker → ℕ → Stamped → List (ℕ × Signal) → BoxState → Claimed
take_entry worker slot item sent after = record {
  entry = record {
    stamp = max worker.stamp item.stamp
        + 1;
    event = Take slot;
    taken = Some (without_stamp item);
    sent = sent;
    after = after;
  };
  claim = item.stamp;
}

-- any other event
abbrev pub act_entry : Worker → Event → List (ℕ × Signal) → BoxState → Claimed
act_entry worker event sent after =
    record {
      entry = record {
        stamp = worker.stamp
            + 1;
        event = event;
        taken = None;
        sent = sent;
        after = after;
      };
      claim = 0;
    }

-- a slot took an item, and so many signals were sent
pub record IsTaken (a b : Worker) (slot : ℕ) (item : Stamped) (count : ℕ) : Type 0 where
  pub sent : List (ℕ × Signal)
  pub work : IsWork a b (take_entry a slot item sent b.part ∷ [])
  pub counted : count ≡ length sent

-- an event was made, and so many signals were sent
pub record IsActed (a b : Worker) (event : Event) (count : ℕ) : Type 0 where
  pub sent : List (ℕ × Signal)
  pub work : IsWork a b (act_entry a event sent b.part ∷ [])
  pub counted : count ≡ length sent

-- ---- numbers

-- the numbers of a log were added
pub record AreAdded (old new : Progress) (log : List Claimed) : Type 0 where
  pub turns : new.turns ≡ old.turns + length log
  pub sent : new.sent ≡ old.sent + count_sent log
  pub took : new.took ≡ old.took + length (events_that is_take log)

-- the most signals that a turn sends
abbrev pub turn_sends_limit : ℕ
turn_sends_limit = 2 * SLOT_LIMIT

-- a worker in a round: it is ready for a turn, the numbers are within their limits, and no inbox has something where
-- channel ends were passed
pub record IsUnderWay (worker : Worker) (progress : Progress) : Type 0 where
  pub ready : IsReady worker
  pub turns : progress.turns ≤ TURN_LIMIT
  pub sent : progress.sent ≤ turn_sends_limit * progress.turns
  pub took : progress.took ≤ progress.turns
  pub stamp : worker.stamp ≤ FIRST_STAMP_LIMIT + progress.turns
  pub empty : 0 < progress.passed → AreEmpty worker.inboxes

-- ---- what is looked at

-- nothing changed but what the ends know of their rings, and how often they looked
pub record OnlyLooks (a b : Worker) : Type 0 where
  pub work : IsWork a b []
  pub same : b ≡ record a { ins = b.ins }
  pub ports : length b.ins.items ≡ length a.ins.items

-- an end that wasn't passed, and what is next there
pub record IsNextAt (worker : Worker) (passed : ℕ) (found : ℕ × Stamped) : Type 0 where
  pub there : found.0 < length worker.ins.items
  pub next : next_in (in_at worker found.0) ≡ Some found.1
  pub ahead : passed ≤ found.0

-- ---- turns

-- no way in changed, and the box has as many slots as before
pub record TakesNothing (a b : Worker) : Type 0 where
  pub ins : (end : ℕ) → in_at b end ≡ in_at a end
  pub ports : length b.ins.items ≡ length a.ins.items
  pub slots : length b.part.slots ≡ length a.part.slots

-- one turn, of an event that takes nothing
pub record IsOneTurn (a b : Worker) (s t : Progress) (event : Event) : Type 0 where
  pub one : Claimed
  pub work : IsWork a b (one ∷ [])
  pub event_is : one.entry.event ≡ event
  pub added : AreAdded s t (one ∷ [])

-- the first entry is a stimulus
abbrev pub BeginsByStimulus : List Claimed → Type 0
BeginsByStimulus [] = Unit {0}
BeginsByStimulus (claimed ∷ log) = IsTrue (is_command claimed.entry.event)

-- turns without retries, the first by a stimulus where one waits, whose numbers were added
pub record AreTurns (a b : Worker) (s t : Progress) : Type 0 where
  pub log : List Claimed
  pub work : IsWork a b log
  pub added : AreAdded s t log
  pub first : a.stimuli.items ≢ [] → BeginsByStimulus log
  pub no_retry : events_that is_retry log ≡ []

-- what is made before anything is taken: the first stimulus, or a shift where none waits
pub record IsNextAct (worker : Worker) (event : Event) : Type 0 where
  pub enabled : is_enabled worker.part event ≡ true
  pub no_take : is_take event ≡ false
  pub no_retry : is_retry event ≡ false
  pub first : IsTrue (is_command event) → slice_get worker.stimuli.items 0 ≡ Some event
  pub shift : IsTrue (is_shift event) → worker.shifts < SHIFT_LIMIT
  pub begins : worker.stimuli.items ≢ [] → IsTrue (is_command event)

-- turns of these events, which take nothing and are no stimuli
pub record AreRetried (a b : Worker) (s t : Progress) (events : List Event) : Type 0 where
  pub log : List Claimed
  pub work : IsWork a b log
  pub events_are : map event_of log ≡ events
  pub added : AreAdded s t log
  pub no_take : events_that is_take log ≡ []
  pub no_stimulus : events_that is_command log ≡ []

abbrev pub is_memory : Stop → Bool
is_memory (NoMemory error) = true
is_memory stop = false

-- retries at the slots below a number, up to a stop for memory
pub record IsCutShort (a b : Worker) (s t : Progress) (stop : Stop) : Type 0 where
  pub below : ℕ
  pub made : AreRetried a b s t (owed_below a.part below)
  pub memory : IsTrue (is_memory stop)

-- each end below a number stayed as it was, or was found idle
abbrev pub AllPassed : ℕ → ℕ → Worker → Worker → Type 0
AllPassed from passed a b = (end : ℕ) → end < passed → Passed from end (in_at a end) (in_at b end)
