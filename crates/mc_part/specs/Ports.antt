-- Ports of a part: the c-th is that of its channel c.
use Rattle.std.specs.Prelude.{◌≡◌, ℕ, ◌*◌, ◌+◌, ◌-◌, ◌/◌, ◌^◌, min, ◌<◌, ◌≤◌, ◌==◌, Bool, true, if◌then◌else◌, List, [], length, map, slice_index_or, Option, Some, None}
use Rattle.std.specs.List.{slice_get}
use Rattle.mc_merge.specs.Lanes.{leads_from, leads_to}
use Rattle.mc_model.specs.Worlds.{WorldState}
use Rattle.mc_port.specs.Ends.{RingName, given, in_ring, known, out_ring, received}
use Rattle.mc_port.specs.declared.stamped.Stamped.{Stamped}
use Rattle.mc_part.specs.declared.port.Port.{Port}

-- lane 2c leads to the channel's initiator
abbrev pub into_lane : ℕ → Bool → ℕ
into_lane channel starts = 2 * channel + (if starts then 0 else 1)

abbrev pub out_lane : ℕ → Bool → ℕ
out_lane channel starts = 2 * channel + (if starts then 1 else 0)

-- what came by the port of a lane that comes in, and what went by that of one that goes out
abbrev pub received_by : Option Port → ℕ → List Stamped
received_by None lane = []
received_by (Some port) lane = if lane == into_lane (lane / 2) port.starts_here then received port.from else []

abbrev pub received_at : List Port → ℕ → List Stamped
received_at ports lane = received_by (slice_get ports (lane / 2)) lane

abbrev pub given_by : Option Port → ℕ → List Stamped
given_by None lane = []
given_by (Some port) lane = if lane == out_lane (lane / 2) port.starts_here then given port.to else []

abbrev pub given_at : List Port → ℕ → List Stamped
given_at ports lane = given_by (slice_get ports (lane / 2)) lane

-- ports stay at their ends of their rings, with their place holders and slots
abbrev pub sides : List Port → List Bool
sides ports = map (λ port. port.starts_here) ports

abbrev pub rings_of : Port → (RingName × RingName) × (ℕ × ℕ)
rings_of port = ((in_ring port.from, out_ring port.to), (port.holder, port.first))

-- the slot at which a tunnel comes in
abbrev pub entry_slot : Port → ℕ → ℕ
entry_slot port tunnel = min (port.first + 2 * tunnel) (2 ^ 32 - 1)

-- the port knows of this item, and it's the oldest that wasn't taken
pub record IsFirst (ports : List Port) (channel : ℕ) (item : Stamped) : Type 0 where
  pub port : Port
  pub there : slice_get ports channel ≡ Some port
  pub first : slice_get (known port.from) 0 ≡ Some item

-- a port looked at its ring, and took nothing
pub record IsSeen (a b : Port) : Type 0 where
  pub received : received b.from ≡ received a.from
  pub ring : in_ring b.from ≡ in_ring a.from
  pub to : b.to ≡ a.to
  pub starts : b.starts_here ≡ a.starts_here
  pub kept : b ≡ record a { from = b.from; to = b.to }

-- the channel of each port leads to a number past the last box
abbrev pub LeadAway : WorldState → ℕ → List Bool → Type 0
LeadAway tables boxes starts = (c : ℕ) → c < length starts →
    (boxes ≤ leads_from tables (into_lane c (slice_index_or starts c true)))
    × (boxes ≤ leads_to tables (out_lane c (slice_index_or starts c true)))
