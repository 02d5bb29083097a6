-- The state of a shard, and which entries may follow it: the state is a function of the first one and of the journal.
use Rattle.std.specs.Prelude.{◌≡◌, ℕ, ◌+◌, ◌<◌, List, [], ◌∷◌, ◌++◌, length, slice_get, slice_index_or, slice_set, Option, Some, None}
use Rattle.std.specs.Option.{option_map, unwrap_or}
use Rattle.mc_signal.specs.declared.Signal.{Signal}
use Rattle.mc_box.specs.BoxEvents.{BoxStep, box_event}
use Rattle.mc_box.specs.Boxes.{BoxState, no_box}
use Rattle.mc_box.specs.declared.event.Event.{Event}
use Rattle.mc_box.specs.declared.event.Event.TheVariants.{Take}
use Rattle.mc_shard.specs.Digests.{digest_after}
use Rattle.mc_shard.specs.Journals.{EntryState, taken_list}
use Rattle.mc_shard.specs.declared.entry.Asked.{Asked}
use Rattle.mc_shard.specs.declared.entry.AtEnd.{AtEnd}
use Rattle.mc_shard.specs.declared.entry.Numbered.{Numbered}
use Rattle.mc_shard.specs.declared.reached.Reached.{Reached}

-- for each box of the shard, and each of its slots, the channel end at which the slot is, by its number in the shard,
-- and its tunnel there
abbrev pub Places : Type 0
Places = List (List (ℕ × ℕ))

abbrev pub places_of : Places → ℕ → List (ℕ × ℕ)
places_of places who = slice_index_or places who []

-- ---- states

-- boxes; the stamp of the last turn; for each end how far its lanes are, by what was sent there, and taken; and for
-- each asker the number of its last request
pub record ShardState : Type 0 where
  pub boxes : List BoxState
  pub stamp : ℕ
  pub sent : List Reached
  pub taken : List Reached
  pub asked : List ℕ

abbrev pub box_in : ShardState → ℕ → BoxState
box_in state who = slice_index_or state.boxes who no_box

-- a lane without signals
abbrev pub none_reached : Reached
none_reached = record { count = 0; digest = 0 }

abbrev pub reached_at : List Reached → ℕ → Reached
reached_at lanes end = slice_index_or lanes end none_reached

abbrev pub count_at : List Reached → ℕ → ℕ
count_at lanes end = (reached_at lanes end).count

-- one more at its end
abbrev pub raised : List Reached → AtEnd → List Reached
raised lanes one = slice_set lanes one.end (record { count = count_at lanes one.end + 1; digest = one.item.digest })

-- and each of these
abbrev pub raised_all : List Reached → List AtEnd → List Reached
raised_all lanes [] = lanes
raised_all lanes (one ∷ rest) = raised_all (raised lanes one) rest

-- its digest goes on from this one
abbrev pub Follows : ℕ → Numbered → Type 0
Follows last item = item.digest ≡ digest_after last item.number item.stamp item.tunnel item.signal

-- it is the next signal of a lane that is so far
pub record IsNext (last : Reached) (item : Numbered) : Type 0 where
  pub number : item.number ≡ last.count + 1
  pub digest : Follows last.digest item

-- each is the next of its lane
abbrev pub AreNext : List Reached → List AtEnd → Type 0
AreNext lanes [] = Unit {0}
AreNext lanes (one ∷ rest) = IsNext (reached_at lanes one.end) one.item × AreNext (raised lanes one) rest

-- ---- requests

-- the number of an asker's last request, and 0 before its first
abbrev pub last_request : List ℕ → ℕ → ℕ
last_request asked asker = slice_index_or asked asker 0

-- it is the next request of an asker that is there
pub record IsNextAsked (last : List ℕ) (asked : Asked) : Type 0 where
  pub there : asked.asker < length last
  pub number : asked.number ≡ last_request last asked.asker + 1

-- a request is the next of its asker, and none asks for what takes a signal
abbrev pub FitsAsked : List ℕ → Option Asked → Option AtEnd → Type 0
FitsAsked last None taken = Unit {0}
FitsAsked last (Some asked) None = IsNextAsked last asked
FitsAsked last (Some asked) (Some one) = ⊥

-- it is the last of its asker
abbrev pub asked_after : List ℕ → Option Asked → List ℕ
asked_after last None = last
asked_after last (Some asked) = slice_set last asked.asker asked.number

-- ---- what a box sends, as its journal has it

-- the next signal of a lane that is so far
abbrev pub next_item : Reached → ℕ → ℕ → Signal → Numbered
next_item last stamp tunnel signal = record {
  number = last.count + 1;
  stamp = stamp;
  digest = digest_after last.digest (last.count + 1) stamp tunnel signal;
  tunnel = tunnel;
  signal = signal;
}

-- a signal at the place of its slot, as the next there. A slot without a place sends nothing
abbrev pub numbered_if : Option (ℕ × ℕ) → ℕ → List Reached → Signal → List AtEnd
numbered_if None stamp lanes signal = []
numbered_if (Some place) stamp lanes signal = record {
  end = place.0;
  item = next_item (reached_at lanes place.0) stamp place.1 signal;
} ∷ []

-- the signals of a turn at the places of their slots, each as the next there and with the stamp of the turn
abbrev pub numbered : List (ℕ × ℕ) → ℕ → List Reached → List (ℕ × Signal) → List AtEnd
numbered places stamp lanes [] = []
numbered places stamp lanes (sending ∷ rest) =
    let here = numbered_if (slice_get places sending.0) stamp lanes sending.1 in
    here ++ numbered places stamp (raised_all lanes here) rest

-- ---- entries

abbrev pub signal_of : Option AtEnd → Option Signal
signal_of taken = option_map (λ one. one.item.signal) taken

-- what is taken is at the place of the slot that takes it, and nothing else takes
abbrev pub FitsEnd : List (ℕ × ℕ) → Event → AtEnd → Type 0
FitsEnd places (Take local) one = slice_get places local ≡ Some (one.end, one.item.tunnel)
FitsEnd places event one = ⊥

abbrev pub FitsPlaces : List (ℕ × ℕ) → Event → Option AtEnd → Type 0
FitsPlaces places event None = Unit {0}
FitsPlaces places event (Some one) = FitsEnd places event one

-- what is taken was sent with a lower stamp
abbrev pub IsAbove : Option AtEnd → ℕ → Type 0
IsAbove None stamp = Unit {0}
IsAbove (Some one) stamp = one.item.stamp < stamp

-- what the event of an entry does to its box, and nothing where it can't happen
abbrev pub step_in : ShardState → EntryState → BoxStep
step_in state entry = unwrap_or (box_event (box_in state entry.who) entry.event (signal_of entry.taken))
    (record { sent = []; after = box_in state entry.who })

-- the entry is what its box makes of its event: what the box sends stands in the same entry, with the next numbers;
-- what it takes is the next of its lane; a request that asked for it is the next of its asker; and the stamp is above
-- that of the turn before, and above that with which what it takes was sent
pub record MayFollow (places : Places) (state : ShardState) (entry : EntryState) : Type 0 where
  pub here : entry.who < length state.boxes
  pub goes : box_event (box_in state entry.who) entry.event (signal_of entry.taken) ≡ Some (step_in state entry)
  pub sent : entry.sent ≡ numbered (places_of places entry.who) entry.stamp state.sent (step_in state entry).sent
  pub next : AreNext state.taken (taken_list entry.taken)
  pub fits : FitsPlaces (places_of places entry.who) entry.event entry.taken
  pub asked : FitsAsked state.asked entry.asked entry.taken
  pub rises : state.stamp < entry.stamp
  pub above : IsAbove entry.taken entry.stamp

-- the state after an entry
abbrev pub after_entry : ShardState → EntryState → ShardState
after_entry state entry = record {
  boxes = slice_set state.boxes entry.who (step_in state entry).after;
  stamp = entry.stamp;
  sent = raised_all state.sent entry.sent;
  taken = raised_all state.taken (taken_list entry.taken);
  asked = asked_after state.asked entry.asked;
}

-- ---- journals

-- the state that a journal tells
abbrev pub state_after : ShardState → List EntryState → ShardState
state_after state [] = state
state_after state (entry ∷ entries) = state_after (after_entry state entry) entries

-- each entry may follow those before it
abbrev pub IsJournal : Places → ShardState → List EntryState → Type 0
IsJournal places state [] = Unit {0}
IsJournal places state (entry ∷ entries) = MayFollow places state entry
    × IsJournal places (after_entry state entry) entries
