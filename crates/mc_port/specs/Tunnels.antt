-- What a log takes and sends at one of a box's channel ends.
use Rattle.std.specs.Prelude.{◌≡◌, ◌==◌, ℕ, if◌then◌else◌, List, [], ◌∷◌, flat_map, map, slice_get, Option, Some, None}
use Rattle.std.specs.Option.{option_map}
use Rattle.mc_signal.specs.declared.Signal.{Signal}
use Rattle.mc_signal.specs.declared.Tagged.{Tagged}
use Rattle.mc_box.specs.declared.event.Event.{Event}
use Rattle.mc_box.specs.declared.event.Event.TheVariants.{Take}
use Rattle.mc_port.specs.Ends.{with_stamp}
use Rattle.mc_port.specs.declared.stamped.Stamped.{Stamped}
use Rattle.mc_port.specs.Entries.{Claimed, Entry}

-- which tunnel of a channel end each slot of a box has, by the slot's local number; none where the slot is at another
-- end
abbrev pub Tunnels : Type 0
Tunnels = ℕ → Option ℕ

-- ---- one event

-- the tunnel of the slot that takes
abbrev pub taking_tunnel : Tunnels → Event → Option ℕ
taking_tunnel tunnels (Take local) = tunnels local
taking_tunnel tunnels event = None

abbrev pub taken_if : Option ℕ → Tagged → List Tagged
taken_if None tagged = []
taken_if (Some tunnel) tagged = tagged ∷ []

-- what an event takes at the end
abbrev pub event_takes : Tunnels → Event → Option Tagged → List Tagged
event_takes tunnels event None = []
event_takes tunnels event (Some tagged) = taken_if (taking_tunnel tunnels event) tagged

-- a signal, with the tunnel of its slot, where that is at the end
abbrev pub sent_if : Option ℕ → ℕ → Signal → List Stamped
sent_if None stamp signal = []
sent_if (Some tunnel) stamp signal = record { stamp = stamp; tunnel = tunnel; signal = signal } ∷ []

-- what an event of this stamp sends at the end, of all that it sends
abbrev pub event_sends : Tunnels → ℕ → List (ℕ × Signal) → List Stamped
event_sends tunnels stamp sent = flat_map (λ sending. sent_if (tunnels sending.0) stamp sending.1) sent

-- ---- a log

-- what it takes at the end, with the stamps that it claims
abbrev pub log_takes : Tunnels → List Claimed → List Stamped
log_takes tunnels log =
    flat_map (λ claimed. map (with_stamp claimed.claim)
    (event_takes tunnels claimed.entry.event claimed.entry.taken)) log

-- what it sends there, with its stamps
abbrev pub log_sends : Tunnels → List Entry → List Stamped
log_sends tunnels entries = flat_map (λ entry. event_sends tunnels entry.stamp entry.sent) entries

-- ---- the ends of a box, by the channel end and the tunnel of each of its slots

abbrev pub tunnel_if_at : ℕ → Option (ℕ × ℕ) → Option ℕ
tunnel_if_at end None = None
tunnel_if_at end (Some place) = if place.0 == end then Some place.1 else None

-- the tunnels of one end
abbrev pub tunnels_at : List (ℕ × ℕ) → ℕ → Tunnels
tunnels_at places end local = tunnel_if_at end (slice_get places local)

-- what is taken is for the tunnel of the slot that takes it
abbrev pub FitsSlot : List (ℕ × ℕ) → Event → Tagged → Type 0
FitsSlot places (Take local) tagged = option_map (λ place. place.1) (slice_get places local) ≡ Some tagged.tunnel
FitsSlot places event tagged = Unit {0}

abbrev pub FitsPlace : List (ℕ × ℕ) → Event → Option Tagged → Type 0
FitsPlace places event None = Unit {0}
FitsPlace places event (Some tagged) = FitsSlot places event tagged
