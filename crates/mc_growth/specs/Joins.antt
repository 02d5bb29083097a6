-- A channel joins a world: it has one tunnel, whose two slots are new. Each comes last in its box, and all else stays.
use Rattle.std.specs.Prelude.{◌≡◌, ◌≢◌, ◌<◌, ◌+◌, ℕ, true, false, List, [], ◌∷◌, ◌++◌, length, slice_set, None}
use Rattle.mc_signal.specs.declared.Medium.{Medium}
use Rattle.mc_box.specs.Boxes.{BoxState, with_new_slot}
use Rattle.mc_box.specs.declared.limit.TheConstants.{SLOT_LIMIT}
use Rattle.mc_box.specs.declared.setup.SlotSetup.{SlotSetup}
use Rattle.mc_model.specs.Worlds.{ChannelState, WorldState, box_at, channel_number_limit, slot_count}

-- the box may get a slot: it has fewer than the limit, and no program
pub record HasRoom (box : BoxState) : Type 0 where
  pub room : length box.slots < SLOT_LIMIT
  pub unprogrammed : box.program ≡ None

-- a channel may join two boxes: they are there, they differ, each may get a slot, and there are fewer channels than can
-- be numbered
pub record MayJoin (world : WorldState) (from to : ℕ) : Type 0 where
  pub near : from < length world.boxes
  pub away : to < length world.boxes
  pub apart : from ≢ to
  pub near_room : HasRoom (box_at world from)
  pub away_room : HasRoom (box_at world to)
  pub few : length world.channels < channel_number_limit

-- the channel: its tunnel has the next slot of both boxes
abbrev pub joining : WorldState → Medium → (from to : ℕ) → ChannelState
joining world medium from to = record {
  from = from;
  to = to;
  tunnels = record {
    medium = medium;
    from = length (box_at world from).slots;
    to = length (box_at world to).slots;
  } ∷ [];
}

-- the slot of the initiator has the next number among all slots
abbrev pub near_slot : WorldState → Medium → SlotSetup
near_slot world medium = record { origin = slot_count world; medium = medium; initiator = true; address = None }

-- and the slot at the other end the one after that
abbrev pub away_slot : WorldState → Medium → SlotSetup
away_slot world medium = record { origin = slot_count world + 1; medium = medium; initiator = false; address = None }

-- the initiator's box with its new slot, and the other one
abbrev pub near_box : WorldState → Medium → (from : ℕ) → BoxState
near_box world medium from = with_new_slot (box_at world from) (near_slot world medium)

abbrev pub away_box : WorldState → Medium → (to : ℕ) → BoxState
away_box world medium to = with_new_slot (box_at world to) (away_slot world medium)

-- each of the two boxes has its new slot, and the others stay
abbrev pub joined_boxes : WorldState → Medium → (from to : ℕ) → List BoxState
joined_boxes world medium from to =
    slice_set (slice_set world.boxes from (near_box world medium from)) to (away_box world medium to)

-- the world then: the channel comes last, and nothing is under way in it
abbrev pub joined : WorldState → Medium → (from to : ℕ) → WorldState
joined world medium from to = record {
  boxes = joined_boxes world medium from to;
  channels = world.channels ++ joining world medium from to ∷ [];
  lanes = world.lanes ++ [] ∷ [] ∷ [];
}
