-- What a contract sees of the two ends of a ring.
use Rattle.std.specs.Prelude.{◌≡◌, ℕ, ◌+◌, ◌<◌, ◌≤◌, ◌⊎◌, List, [], ◌∷◌, ◌++◌, min, length, drop, if◌then◌else◌, nat_eq}
use mathlib.Core.List.{IsPrefix}
use denote.RawPtr.{Ptr}
use Rattle.std.specs.declared.alloc.Global.{Global}
use Rattle.rtrb.specs.Ring.{sent, received as taken_from, known_free, known_items}
use Rattle.mc_signal.specs.declared.Tagged.{Tagged}
use Rattle.mc_port.specs.declared.ends.InPort.{InPort}
use Rattle.mc_port.specs.declared.ends.OutPort.{OutPort}
use Rattle.mc_port.specs.declared.limit.TheConstants.{LAST_COUNT}
use Rattle.mc_port.specs.declared.stamped.Stamped.{Stamped}

-- what tells one ring from another
abbrev pub RingName : Type 0
RingName = Ptr × Ptr × (ℕ × (ℕ × ℕ)) × Global

abbrev pub out_ring : OutPort → RingName
out_ring port = (port.end.end.words, port.end.end.slots, port.end.end.names, port.end.end.heap)

abbrev pub in_ring : InPort → RingName
in_ring port = (port.end.end.words, port.end.end.slots, port.end.end.names, port.end.end.heap)

-- ---- the end that gives

-- every item that went into the ring, oldest first
abbrev pub given : OutPort → List Stamped
given port = sent port.end

-- how many places the end knows to be free
abbrev pub free_places : OutPort → ℕ
free_places port = known_free port.end

-- how often the ring handed an item back, up to the last count
abbrev pub back_count : OutPort → ℕ
back_count port = port.handed_back

-- the count when an item was handed back once more
abbrev pub one_more_back : ℕ → ℕ
one_more_back count = min (count + 1) LAST_COUNT

-- the item went into the ring, and at most one place less is known to be free
pub record IsGiven (old new : OutPort) (item : Stamped) : Type 0 where
  pub items : given new ≡ given old ++ item ∷ []
  pub places : free_places old ≤ free_places new + 1
  pub count : back_count new ≡ back_count old

-- the item came back from a ring without a free place known before or after, and that was counted
pub record IsHandedBack (old new : OutPort) (item back : Stamped) : Type 0 where
  pub same : back ≡ item
  pub items : given new ≡ given old
  pub full_before : free_places old ≡ 0
  pub full : free_places new ≡ 0
  pub count : back_count new ≡ one_more_back (back_count old)

-- nothing is given, and nothing is handed back
pub record GivesNothing (old new : OutPort) : Type 0 where
  pub ring : out_ring new ≡ out_ring old
  pub items : given new ≡ given old
  pub count : back_count new ≡ back_count old

-- ---- the end that takes

-- every item that was taken, oldest first
abbrev pub received : InPort → List Stamped
received port = taken_from port.end

-- the items that the end knows of and hasn't taken, oldest first
abbrev pub known : InPort → List Stamped
known port = known_items port.end

-- how often the end looked, up to the last count
abbrev pub look_count : InPort → ℕ
look_count port = port.looks

-- the count of looks after a call that looks where the end knows of no item
abbrev pub looks_after : InPort → ℕ
looks_after port = if nat_eq (length (known port)) 0 then min (look_count port + 1) LAST_COUNT else look_count port

-- the end looked at its ring between these two states, or its count is the last
abbrev pub HasLooked : InPort → InPort → Type 0
HasLooked old new = (look_count old < look_count new) ⊎ (look_count new ≡ LAST_COUNT)

-- it knew of no item, looked, and knows of none
pub record KnowsNothing (old new : InPort) : Type 0 where
  pub before : known old ≡ []
  pub now : known new ≡ []
  pub looked : HasLooked old new

-- it stays the end of its ring, and counts no look
pub record CountsNoLook (old new : InPort) : Type 0 where
  pub ring : in_ring new ≡ in_ring old
  pub looks : look_count new ≡ look_count old

-- ---- both

-- the two ends of one ring
abbrev pub IsPair : OutPort → InPort → Type 0
IsPair from to = out_ring from ≡ in_ring to

-- what was given to a ring and not taken from it
abbrev pub left_in : OutPort → InPort → List Stamped
left_in from to = drop (length (received to)) (given from)

-- what was given is what was taken, and then what is left, of which the taking end knows the first items
pub record IsInOrder (from : OutPort) (to : InPort) : Type 0 where
  pub left : received to ++ left_in from to ≡ given from
  pub knew : IsPrefix (known to) (left_in from to)

-- ---- items

-- an item's tunnel and signal
abbrev pub without_stamp : Stamped → Tagged
without_stamp item = record { tunnel = item.tunnel; signal = item.signal }

-- a tunnel and a signal with a stamp
abbrev pub with_stamp : ℕ → Tagged → Stamped
with_stamp stamp tagged = record { stamp = stamp; tunnel = tagged.tunnel; signal = tagged.signal }
