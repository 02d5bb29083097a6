-- What a world is made of, once it is taken apart.
use Rattle.std.specs.Prelude.{◌≡◌, ℕ, ◌*◌, List, length}
use Rattle.mc_world.specs.Lanes.{signals_of}
use Rattle.mc_world.specs.Tables.{IsTopologyOf}
use Rattle.mc_model.specs.Worlds.{AreChannels, ChannelState, WorldState}
use Rattle.mc_world.specs.declared.network.parts.Parts.{Parts}

-- the world that parts are of
abbrev pub parts_state : Parts → WorldState
parts_state parts =
    record { boxes = parts.boxes.items; channels = parts.channels.items; lanes = signals_of parts.lanes.items }

-- the tables of these parts are those of these channels, which are within the limits, and of so many boxes, wherever
-- channels and boxes are
abbrev pub FitsFrame : Parts → List ChannelState → ℕ → Type 0
FitsFrame parts channels boxes = AreChannels channels × IsTopologyOf parts.topology channels boxes

-- they are those of the channels that stand in the parts, each of which has its two lanes
abbrev pub HasFrame : Parts → ℕ → Type 0
HasFrame parts boxes =
    FitsFrame parts parts.channels.items boxes × (length parts.lanes.items ≡ 2 * length parts.channels.items)
