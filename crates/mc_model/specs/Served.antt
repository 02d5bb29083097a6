-- Each signal under way is on the lane of a slot that it is for.
use Rattle.std.specs.Prelude.{◌≡◌, ◌<◌, ℕ, List, [], ◌∷◌, slice_index_or}
use Rattle.mc_signal.specs.declared.Tagged.{Tagged}
use Rattle.mc_model.specs.Worlds.{WorldState, tunnel_of, lane_of, slot_count}

-- slot s is the one that a signal of a lane is for
pub record IsFor (world : WorldState) (lane : ℕ) (tagged : Tagged) (s : ℕ) : Type 0 where
  pub inside : s < slot_count world
  pub leads : lane_of world s ≡ lane
  pub within : (tunnel_of world s).within ≡ tagged.tunnel

-- each of these signals of a lane is for some slot
abbrev pub AllServed : WorldState → ℕ → List Tagged → Type 0
AllServed world lane [] = Unit {0}
AllServed world lane (tagged ∷ rest) = ((s : ℕ) × IsFor world lane tagged s) × AllServed world lane rest

-- each signal under way is for some slot
abbrev pub LanesServed : WorldState → Type 0
LanesServed world = (lane : ℕ) → AllServed world lane (slice_index_or world.lanes lane [])
