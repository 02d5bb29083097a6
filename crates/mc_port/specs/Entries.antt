-- What a box has logged: its events one after the other, each with its stamp, what it took and what it sent.
use Rattle.std.specs.Prelude.{◌≡◌, ℕ, ◌+◌, max, Bool, if◌then◌else◌, List, [], ◌∷◌, flat_map, length, map, Option, Some, None}
use Rattle.std.specs.Option.{option_map}
use Rattle.mc_signal.specs.declared.Signal.{Signal}
use Rattle.mc_signal.specs.declared.Tagged.{Tagged}
use Rattle.mc_box.specs.BoxEvents.{box_event}
use Rattle.mc_box.specs.Boxes.{BoxState, no_box}
use Rattle.mc_box.specs.declared.event.Event.{Event}
use Rattle.mc_box.specs.declared.event.Event.TheVariants.{Shift}

-- an event of a box: its stamp, the tunnel and signal that it took, if it took one, what it sent in order, and the box
-- after it
pub record Entry : Type 0 where
  pub stamp : ℕ
  pub event : Event
  pub taken : Option Tagged
  pub sent : List (ℕ × Signal)
  pub after : BoxState

-- what stands where no entry is
abbrev pub no_entry : Entry
no_entry = record { stamp = 0; event = Shift; taken = None; sent = []; after = no_box }

abbrev pub signal_in : Option Tagged → Option Signal
signal_in taken = option_map (λ tagged. tagged.signal) taken

-- the events of these entries, one after the other, make the one box into the other
abbrev pub AreMade : BoxState → List Entry → BoxState → Type 0
AreMade box [] last = box ≡ last
AreMade box (entry ∷ entries) last =
    (box_event box entry.event (signal_in entry.taken) ≡ Some (record { sent = entry.sent; after = entry.after }))
    × AreMade entry.after entries last

abbrev pub stamps_of : List Entry → List ℕ
stamps_of entries = map (λ entry. entry.stamp) entries

-- ---- with the stamps of what was taken

-- an entry, and the stamp with which what it took was sent: 0 where that was there before
pub record Claimed : Type 0 where
  pub entry : Entry
  pub claim : ℕ

abbrev pub entries_of : List Claimed → List Entry
entries_of log = map (λ claimed. claimed.entry) log

-- an event that takes nothing claims 0
abbrev pub claim_of : Option Tagged → ℕ → ℕ
claim_of None claim = 0
claim_of (Some tagged) claim = claim

-- each stamp is one more than the greater of the stamp before it and what is claimed
abbrev pub AreStamped : ℕ → List Claimed → Type 0
AreStamped before [] = Unit {0}
AreStamped before (claimed ∷ log) =
    (claimed.entry.stamp ≡ max before (claim_of claimed.entry.taken claimed.claim) + 1)
    × AreStamped claimed.entry.stamp log

-- the stamp of the last entry, or the one before
abbrev pub last_stamp : ℕ → List Claimed → ℕ
last_stamp before [] = before
last_stamp before (claimed ∷ log) = last_stamp claimed.entry.stamp log

-- ---- events and numbers of a log

abbrev pub event_of : Claimed → Event
event_of claimed = claimed.entry.event

-- the events that pass a test, in order
abbrev pub events_that : (Event → Bool) → List Claimed → List Event
events_that test log = flat_map (λ claimed. if test claimed.entry.event then claimed.entry.event ∷ [] else []) log

-- how many signals were sent
abbrev pub count_sent : List Claimed → ℕ
count_sent [] = 0
count_sent (claimed ∷ log) = length claimed.entry.sent + count_sent log
