-- Lanes as they change, by the tables of a world.
use Rattle.std.specs.Prelude.{ℕ, Bool, if◌then◌else◌, ◌≡◌, ◌+◌, ◌*◌, ◌/◌, ◌%◌, ◌^◌, ◌<◌, ◌≤◌, List, [], ◌∷◌, ◌++◌, All, drop, fold, length, map, position, slice_index_or, slice_set, HoldsAt, Some, unwrap_or, Vec}
use Rattle.std.specs.List.{slice_get}
use Rattle.std.specs.declared.alloc.Global.{Global}
use Rattle.std.specs.Option.{option_map}
use Rattle.mc_lane.specs.Queue.{Queue}
use Rattle.mc_signal.specs.declared.Signal.{Signal}
use Rattle.mc_signal.specs.declared.Tagged.{Tagged}
use Rattle.mc_box.specs.Boxes.{BoxState}
use Rattle.mc_box.specs.declared.limit.TheConstants.{SLOT_LIMIT}
use Rattle.mc_model.specs.Worlds.{far, is_place}
use Rattle.mc_world.specs.declared.topology.Topology.{Topology}

-- the signals of each lane
abbrev pub signals_of : List (Queue Tagged) → List (List Tagged)
signals_of lanes = map (λ lane. lane.items) lanes

-- the lane of a channel to its initiator, or to the other end
abbrev pub lane_number : ℕ → Bool → ℕ
lane_number channel to_initiator = 2 * channel + (if to_initiator then 0 else 1)

-- the front leaves a lane
abbrev pub without_front : List (List Tagged) → ℕ → List (List Tagged)
without_front lanes lane = slice_set lanes lane (drop 1 (slice_index_or lanes lane []))

-- ---- where signals go

-- the numbers of a box's slots, as its descriptors have them
abbrev pub origins : BoxState → List ℕ
origins box = map (λ media. media.origin) box.media

-- and as the tables have them, in the order of their local numbers
abbrev pub numbers_of : Topology → ℕ → List ℕ
numbers_of topology who = slice_index_or (map (λ numbers. numbers.items) topology.numbers.items) who []

-- the numbers of the slots of all boxes
abbrev pub number_lists : List (Vec ℕ Global) → List (List ℕ)
number_lists lists = map (λ numbers. numbers.items) lists

-- a box has one number more, in the last place
abbrev pub with_number : List (List ℕ) → (who number : ℕ) → List (List ℕ)
with_number lists who number = slice_set lists who (slice_index_or lists who [] ++ number ∷ [])

-- the lane that leads to a slot, and the number of the slot's tunnel within its channel
abbrev pub lane_by : Topology → ℕ → ℕ
lane_by topology s = 2 * (slice_index_or topology.tunnels.items (s / 2) (0, 0)).0 + s % 2

abbrev pub tunnel_by : Topology → ℕ → ℕ
tunnel_by topology s = (slice_index_or topology.tunnels.items (s / 2) (0, 0)).1

-- each slot is found by its box and local number, and by no others, and each box has only so many
pub record HasNumbers (topology : Topology) : Type 0 where
  pub found : (who local : ℕ)
      → slice_get (numbers_of topology who) local ≡ position (is_place (who, local)) topology.places.items
  pub once : (s : ℕ) → s < length topology.places.items
      → position (is_place (slice_index_or topology.places.items s (0, 0))) topology.places.items ≡ Some s
  pub few : (who : ℕ) → length (numbers_of topology who) ≤ SLOT_LIMIT

-- each tunnel has its two slots, whose numbers fit, and its channel two of so many lanes, slots have their numbers, and
-- those to which one lane leads are of one box, and follow each other as their tunnels do
pub record IsLaid (topology : Topology) (count : ℕ) : Type 0 where
  pub slots : length topology.places.items ≡ 2 * length topology.tunnels.items
  pub fit : length topology.places.items ≤ 2 ^ 32
  pub lanes : (t : ℕ) → t < length topology.tunnels.items
      → 2 * (slice_index_or topology.tunnels.items t (0, 0)).0 + 1 < count
  pub numbers : HasNumbers topology
  pub home : (s t : ℕ) → s < length topology.places.items → t < length topology.places.items
      → lane_by topology s ≡ lane_by topology t
      → (slice_index_or topology.places.items s (0, 0)).0 ≡ (slice_index_or topology.places.items t (0, 0)).0
  pub follow : (s t : ℕ) → s < length topology.places.items → t < length topology.places.items
      → lane_by topology s ≡ lane_by topology t → s + 2 * tunnel_by topology t ≡ t + 2 * tunnel_by topology s

-- a signal goes with its tunnel to the end of the lane that leads to a slot
abbrev pub with_sending : Topology → List (List Tagged) → Signal → ℕ → List (List Tagged)
with_sending topology lanes signal s =
    slice_set lanes (lane_by topology s)
    (slice_index_or lanes (lane_by topology s) [] ++ record { tunnel = tunnel_by topology s; signal = signal } ∷ [])

-- what a box sends by one of its slots goes to the far slot
abbrev pub one_sent : Topology → ℕ → List (List Tagged) → ℕ × Signal → List (List Tagged)
one_sent topology who lanes sending =
    unwrap_or (option_map (λ s. with_sending topology lanes sending.1 (far s))
    (position (is_place (who, sending.0)) topology.places.items)) lanes

-- and so does all that it sends, in the order of sending
abbrev pub all_sent : Topology → ℕ → List (List Tagged) → List (ℕ × Signal) → List (List Tagged)
all_sent topology who lanes sendings = fold (one_sent topology who) lanes sendings

-- the front leaves the lane that leads to a slot, and then what a box sends goes away
abbrev pub relay : Topology → ℕ → List (List Tagged) → ℕ → List (ℕ × Signal) → List (List Tagged)
relay topology who lanes s sent = all_sent topology who (without_front lanes (lane_by topology s)) sent

-- ---- room

-- a lane has room for so many signals
abbrev pub HasRoom : List (Queue Tagged) → ℕ → ℕ → Type 0
HasRoom lanes lane count = HoldsAt (λ queue. count ≤ queue.spare) lanes lane

-- and so has the lane that leads away from a slot
abbrev pub HasRoomAway : List (Queue Tagged) → Topology → ℕ → ℕ → Type 0
HasRoomAway lanes topology s count = HasRoom lanes (lane_by topology (far s)) count

-- which is a box's with this local number
abbrev pub HasRoomFor : List (Queue Tagged) → Topology → ℕ → ℕ → ℕ → Type 0
HasRoomFor lanes topology who local count =
    (s : ℕ) → slice_get (numbers_of topology who) local ≡ Some s → HasRoomAway lanes topology s count

-- for each slot by which a box sends
abbrev pub HasRoomFrom : List (Queue Tagged) → Topology → ℕ → List (ℕ × Signal) → ℕ → Type 0
HasRoomFrom lanes topology who sent count = All (λ sending. HasRoomFor lanes topology who sending.0 count) sent
