-- What stands at one channel end of a box, on its way in and on its way out.
use Rattle.std.specs.Prelude.{◌≡◌, ◌≢◌, ◌==◌, ℕ, ◌+◌, ◌<◌, ◌≤◌, ◌⊎◌, if◌then◌else◌, List, [], ◌∷◌, ◌++◌, Option, Some, map, length, slice_get, slice_index, slice_index_or}
use mathlib.Core.List.{IsPrefix}
use Rattle.mc_port.specs.Ends.{back_count, free_places, given, known, look_count, one_more_back, received, with_stamp}
use Rattle.mc_port.specs.declared.ends.InPort.{InPort}
use Rattle.mc_port.specs.declared.ends.OutPort.{OutPort}
use Rattle.mc_port.specs.declared.limit.TheConstants.{LAST_COUNT}
use Rattle.mc_port.specs.declared.stamped.Stamped.{Stamped}
use Rattle.mc_signal.specs.declared.Tagged.{Tagged}
use Rattle.mc_worker.specs.Boxes.{box_of}

-- ---- the way out

-- what waits in the outbox, what the ring was given, how many places are known to be free, and how often the ring
-- handed something back
pub record OutEnd : Type 0 where
  pub outbox : List Stamped
  pub given : List Stamped
  pub free : ℕ
  pub back : ℕ

-- how often the ring has handed something back, once an outbox got these: the first of them, where nothing waited
-- before it
abbrev pub back_after : List Stamped → List Stamped → ℕ → ℕ
back_after [] outbox count = count
back_after (item ∷ kept) [] count = one_more_back count
back_after (item ∷ kept) (one ∷ outbox) count = count

-- what was sent went to the ring, then to the outbox
pub record OutAccount (old new : OutEnd) (sent : List Stamped) : Type 0 where
  -- what the ring was given, and what the outbox got
  pub put : List Stamped
  pub kept : List Stamped
  pub ring : new.given ≡ old.given ++ put
  pub outbox : new.outbox ≡ old.outbox ++ kept
  pub order : sent ≡ put ++ kept
  -- an outbox in which something waits gets everything
  pub waits : old.outbox ≢ [] → (put ≡ []) × (new.free ≡ old.free)
  -- another gets only what the ring handed back: that is counted, and then no place is known to be free
  pub back : new.back ≡ back_after kept old.outbox old.back
  pub full : old.outbox ≡ [] → kept ≢ [] → new.free ≡ 0
  pub places : old.free ≤ new.free + length put

-- an end by its port and its outbox
abbrev pub out_end_of : OutPort → List Stamped → OutEnd
out_end_of port box = record { outbox = box; given = given port; free = free_places port; back = back_count port }

-- an end by its number, and nothing past the last one
abbrev pub out_end : List OutPort → List (List Stamped) → ℕ → OutEnd
out_end ports boxes end = record {
  outbox = box_of boxes end;
  given = slice_index_or (map given ports) end [];
  free = slice_index (map free_places ports) end;
  back = slice_index (map back_count ports) end;
}

-- an item for one end
abbrev pub if_at : ℕ → ℕ → Stamped → List Stamped
if_at at end item = if at == end then item ∷ [] else []

-- ---- the way in

-- what waits in the inbox, what the ring gave, what the end knows of, and how often it looked
pub record InEnd : Type 0 where
  pub inbox : List Tagged
  pub got : List Stamped
  pub known : List Stamped
  pub looks : ℕ

-- what waits in an inbox counts with the stamp 0
abbrev pub unclaimed : Tagged → Stamped
unclaimed tagged = with_stamp 0 tagged

-- what was taken, with the stamps with which it was sent, is what waited in the inbox and then what the ring gave
pub record InAccount (old new : InEnd) (taken : List Stamped) : Type 0 where
  -- what the ring gave
  pub gave : List Stamped
  pub ring : new.got ≡ old.got ++ gave
  pub order : taken ++ map unclaimed new.inbox ≡ map unclaimed old.inbox ++ gave
  -- all of that was taken
  pub whole : (gave ≡ []) ⊎ (new.inbox ≡ [])
  -- what was known stays known, or was taken
  pub knows : IsPrefix (old.got ++ old.known) (new.got ++ new.known)
  pub looks : old.looks ≤ new.looks

-- an end by its port and its inbox
abbrev pub in_end_of : InPort → List Tagged → InEnd
in_end_of port box = record { inbox = box; got = received port; known = known port; looks = look_count port }

-- an end by its number, and nothing past the last one
abbrev pub in_end : List InPort → List (List Tagged) → ℕ → InEnd
in_end ports boxes end = record {
  inbox = box_of boxes end;
  got = slice_index_or (map received ports) end [];
  known = slice_index_or (map known ports) end [];
  looks = slice_index (map look_count ports) end;
}

-- an end by its ring alone
abbrev pub ring_end : List InPort → ℕ → InEnd
ring_end ports end = in_end ports [] end

-- what is taken next: from the inbox first, then from the ring
abbrev pub next_from : List Tagged → List Stamped → Option Stamped
next_from [] known = slice_get known 0
next_from (tagged ∷ rest) known = Some (unclaimed tagged)

abbrev pub next_in : InEnd → Option Stamped
next_in end = next_from end.inbox end.known

-- the ring was looked at, or its count of looks is the last
abbrev pub WasLookedAt : InEnd → InEnd → Type 0
WasLookedAt old new = (old.looks < new.looks) ⊎ (new.looks ≡ LAST_COUNT)

-- nothing is there, and the ring was looked at
pub record IsIdle (old new : InEnd) : Type 0 where
  pub inbox : new.inbox ≡ []
  pub known : new.known ≡ []
  pub looked : WasLookedAt old new

-- an end below this number is as it was; or it was found idle
abbrev pub Passed : ℕ → ℕ → InEnd → InEnd → Type 0
Passed from end old new = ((end < from) × (new ≡ old)) ⊎ IsIdle old new
