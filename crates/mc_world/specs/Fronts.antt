-- What comes after the front of a lane.
use Rattle.std.specs.Prelude.{ℕ, List, [], drop, slice_index_or}
use Rattle.mc_signal.specs.declared.Tagged.{Tagged}
use Rattle.mc_world.specs.Lanes.{lane_by}
use Rattle.mc_world.specs.Waiting.{FirstServed}
use Rattle.mc_world.specs.declared.topology.Topology.{Topology}

-- once the front has left the lane that leads to a slot, the next one, where there is one, is for some slot
abbrev pub NextServed : Topology → List (List Tagged) → ℕ → Type 0
NextServed topology lanes s =
    FirstServed topology (lane_by topology s) (drop 1 (slice_index_or lanes (lane_by topology s) []))
