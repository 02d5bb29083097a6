-- What an engine keeps: the tables beside its boxes and channels, and that each signal under way is for some slot. Of
-- soundness nothing is asked, so boxes may be missing.
use Rattle.std.specs.Prelude.{◌≡◌, ◌<◌, ◌≤◌, ◌*◌, ℕ, List, [], ◌∷◌, length, slice_index_or}
use Rattle.mc_signal.specs.declared.Tagged.{Tagged}
use Rattle.mc_box.specs.Boxes.{BoxState, no_box}
use Rattle.mc_model.specs.Worlds.{AreChannels, WorldState}
use Rattle.mc_world.specs.Lanes.{IsLaid, numbers_of, signals_of}
use Rattle.mc_world.specs.Tables.{IsTopologyOf}
use Rattle.mc_world.specs.Waiting.{IsForBy, IsWaiting}
use Rattle.mc_world.specs.declared.network.engine.Engine.TheInside.{Inside}
use Rattle.mc_world.specs.declared.topology.Topology.{Topology}

abbrev pub running_state : Inside → WorldState
running_state inside =
    record { boxes = inside.boxes.items; channels = inside.channels.items; lanes = signals_of inside.lanes.items }

-- each of these signals of a lane is for some slot
abbrev pub AllServedBy : Topology → ℕ → List Tagged → Type 0
AllServedBy topology lane [] = Unit {0}
AllServedBy topology lane (tagged ∷ rest) = ((s : ℕ) × IsForBy topology lane tagged s) × AllServedBy topology lane rest

-- and so is each signal under way
abbrev pub AreServed : Topology → List (List Tagged) → Type 0
AreServed topology lanes = (lane : ℕ) → AllServedBy topology lane (slice_index_or lanes lane [])

-- each box that is there has as many numbers as slots
abbrev pub HasSlots : Topology → List BoxState → Type 0
HasSlots topology boxes =
    (who : ℕ) → who < length boxes → length (numbers_of topology who) ≡ length (slice_index_or boxes who no_box).slots

-- the channels are within the limits, the tables are theirs, for these boxes and maybe others, flags and counts say
-- what waits, and nothing is left of what was sent last
pub record IsRunning (inside : Inside) : Type 0 where
  pub channels : AreChannels inside.channels.items
  pub topology : IsTopologyOf inside.topology inside.channels.items (length inside.topology.numbers.items)
  pub lanes : length inside.lanes.items ≡ 2 * length inside.channels.items
  pub laid : IsLaid inside.topology (length inside.lanes.items)
  pub waiting : IsWaiting inside.topology (signals_of inside.lanes.items) inside.waiting
  pub homes : length inside.boxes.items ≤ length inside.topology.numbers.items
  pub slots : HasSlots inside.topology inside.boxes.items
  pub served : AreServed inside.topology (signals_of inside.lanes.items)
  pub scratch : inside.scratch.items ≡ []
