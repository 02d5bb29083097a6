-- Which slots can take a signal, and how many of each box: by the lanes, and as flags and counts keep it.
use Rattle.std.specs.Prelude.{ℕ, Bool, false, if◌then◌else◌, ◌≡◌, ◌<◌, ◌≤◌, List, [], ◌∷◌, length, slice_index_or, Option, Some, None}
use Rattle.std.specs.List.{slice_get}
use Rattle.std.specs.Option.{is_some, option_and_then}
use Rattle.mc_signal.specs.declared.Tagged.{Tagged}
use Rattle.mc_slot_laws.specs.Sums.{total}
use Rattle.mc_box.specs.declared.limit.TheConstants.{SLOT_LIMIT}
use Rattle.mc_model.specs.Worlds.{WorldState, box_at, front, front_for, number}
use Rattle.mc_world.specs.Lanes.{lane_by, numbers_of, tunnel_by}
use Rattle.mc_world.specs.declared.topology.Topology.{Topology}
use Rattle.mc_world.specs.declared.waiting.Waiting.{Waiting}

-- one where it holds, and else none
abbrev pub bit : Bool → ℕ
bit b = if b then 1 else 0

-- ---- by the lanes

-- whether a signal waits that a box's slot can take now
abbrev pub take_waits : WorldState → ℕ → ℕ → Bool
take_waits world who local = is_some (option_and_then (front world) (number world who local))

-- at how many of a box's first slots one waits
abbrev pub waiting_count : WorldState → ℕ → ℕ → ℕ
waiting_count world who count = total (λ local. bit (take_waits world who local)) count

-- these are the counts of all boxes, each of all slots of the box
pub record CountsTakes (world : WorldState) (counts : List ℕ) : Type 0 where
  pub long : length counts ≡ length world.boxes
  pub each : (who : ℕ) → who < length world.boxes
      → slice_index_or counts who 0 ≡ waiting_count world who (length (box_at world who).slots)
  pub few : (who : ℕ) → slice_index_or counts who 0 ≤ SLOT_LIMIT

-- ---- by the tables of a world

-- whether the front of the lane that leads to a slot is for the slot
abbrev pub waits_by : Topology → List (List Tagged) → ℕ → Bool
waits_by topology lanes s = is_some (front_for (tunnel_by topology s) (slice_index_or lanes (lane_by topology s) []))

-- slot s is the one that a signal of a lane is for
pub record IsForBy (topology : Topology) (lane : ℕ) (tagged : Tagged) (s : ℕ) : Type 0 where
  pub inside : s < length topology.places.items
  pub leads : lane_by topology s ≡ lane
  pub within : tunnel_by topology s ≡ tagged.tunnel

-- the first of these signals of a lane, where there is one, is for some slot
abbrev pub FirstServed : Topology → ℕ → List Tagged → Type 0
FirstServed topology lane [] = Unit {0}
FirstServed topology lane (tagged ∷ rest) = (s : ℕ) × IsForBy topology lane tagged s

-- whether a slot has a flag; without a slot there is none
abbrev pub flag_of : List Bool → Option ℕ → Bool
flag_of flags None = false
flag_of flags (Some s) = slice_index_or flags s false

-- how many of a box's first slots have one
abbrev pub flag_count : Topology → List Bool → ℕ → ℕ → ℕ
flag_count topology flags who count =
    total (λ local. bit (flag_of flags (slice_get (numbers_of topology who) local))) count

-- each slot has its flag, and each box the count of the flags of its slots
pub record AreFlagsCounted (topology : Topology) (waiting : Waiting) : Type 0 where
  pub flags : length waiting.flags.items ≡ length topology.places.items
  pub takes : length waiting.takes ≡ length topology.numbers.items
  pub each : (who : ℕ) → who < length topology.numbers.items
      → slice_index_or waiting.takes who 0
      ≡ flag_count topology waiting.flags.items who (length (numbers_of topology who))

-- a slot's flag says whether the front of its lane is for it
abbrev pub AreFlagged : Topology → List (List Tagged) → List Bool → Type 0
AreFlagged topology lanes flags =
    (s : ℕ) → s < length topology.places.items → slice_index_or flags s false ≡ waits_by topology lanes s

-- flags and counts are those of these lanes
pub record IsWaiting (topology : Topology) (lanes : List (List Tagged)) (waiting : Waiting) : Type 0 where
  pub counted : AreFlagsCounted topology waiting
  pub flagged : AreFlagged topology lanes waiting.flags.items
