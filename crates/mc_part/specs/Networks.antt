-- Parts that together are a network, and what they do in a phase.
use Rattle.std.specs.Prelude.{◌≡◌, ℕ, Bool, ◌<◌, List, [], ◌++◌, length, map}
use Rattle.mc_box.specs.declared.event.Event.{Event}
use Rattle.mc_merge.specs.LaneLogs.{without_stamps}
use Rattle.mc_model.specs.Sound.{IsSound}
use Rattle.mc_model.specs.Worlds.{WorldState}
use Rattle.mc_port.specs.declared.stamped.Stamped.{Stamped}
use Rattle.mc_merge.specs.Account.{PartState}
use Rattle.mc_merge.specs.Phases.{AreEmptied, IsApart, IsLayout, Layout, PlaysPhase, before_ring, lane_in, stands_for}
use Rattle.mc_merge.specs.Weaving.{AreWoven, log_at, turn_in}
use Rattle.mc_merge.specs.Wholes.{numbers_in}
use Rattle.mc_merge.specs.declared.log.Made.{Made}
use Rattle.mc_part.specs.Parts.{Runs, shifts_of, state_of, stimuli_of, tables_of}
use Rattle.mc_part.specs.Ports.{given_at, received_at}
use Rattle.mc_part.specs.Running.{owed_of}
use Rattle.mc_part.specs.declared.part.Part.{Part}

abbrev pub states_of : (ℕ → Part) → ℕ → PartState
states_of parts part = state_of (parts part)

abbrev pub tables_at : (ℕ → Part) → ℕ → WorldState
tables_at parts part = tables_of (parts part)

-- what came by the ring of a lane that crosses, and what went into it, since it was made
abbrev pub received_on : Layout → (ℕ → Part) → ℕ → List Stamped
received_on layout parts lane = received_at (parts (layout.takers lane).0).ports.items (layout.takers lane).1

abbrev pub given_on : Layout → (ℕ → Part) → ℕ → List Stamped
given_on layout parts lane = given_at (parts (layout.senders lane).0).ports.items (layout.senders lane).1

-- ---- between phases

-- a lane leads from one part to another
abbrev pub LeadsAcross : WorldState → Layout → (ℕ → Part) → ℕ → Type 0
LeadsAcross base layout parts lane =
    (lane < length base.lanes) × IsApart layout (tables_at parts) (states_of parts) lane

-- each box and lane stands in the parts, nothing waits before a ring, and nothing is in one
pub record AreParts (base : WorldState) (layout : Layout) (parts : ℕ → Part) : Type 0 where
  pub laid : IsLayout base layout (tables_at parts) (states_of parts)
  pub empty : AreEmptied base layout (tables_at parts) (states_of parts)
  pub even : (lane : ℕ) → LeadsAcross base layout parts lane
      → received_on layout parts lane ≡ given_on layout parts lane

-- the world that they stand for
abbrev pub world_by : WorldState → Layout → (ℕ → Part) → WorldState
world_by base layout parts = stands_for base layout (states_of parts)

-- the commands that are left to a box of the network, and its Shifts
abbrev pub stimuli_in : Layout → (ℕ → Part) → ℕ → List Event
stimuli_in layout parts who = stimuli_of (parts (layout.homes who).0) (layout.homes who).1

abbrev pub shifts_in : Layout → (ℕ → Part) → ℕ → ℕ
shifts_in layout parts who = shifts_of (parts (layout.homes who).0) (layout.homes who).1

-- each box of the network has a number in a part, and that is its number again
pub record HaveHomes (layout : Layout) (numbers : List (List ℕ)) (parts : ℕ → Part) (count : ℕ) : Type 0 where
  pub back : (who : ℕ) → who < count → numbers_in numbers (layout.homes who).0 (layout.homes who).1 ≡ who
  pub there : (part at : ℕ) → at < length (parts part).engine.boxes
      → layout.homes (numbers_in numbers part at) ≡ (part, at)
  pub inside : (part at : ℕ) → at < length (parts part).engine.boxes → numbers_in numbers part at < count

-- ---- a phase

-- what is left in a ring, and then what waits before it, went to the end of the lane of the part that takes
pub record IsCarried (layout : Layout) (parts drained : ℕ → Part) (lane : ℕ) : Type 0 where
  pub left : List Stamped
  pub all : received_on layout parts lane ++ left ≡ given_on layout parts lane
  pub rest : lane_in layout (states_of drained) lane ≡ lane_in layout (states_of parts) lane
      ++ (without_stamps left ++ before_ring layout (states_of parts) lane)
  pub empty : before_ring layout (states_of drained) lane ≡ []
  pub even : received_on layout drained lane ≡ given_on layout drained lane

-- that is all that changed
pub record AreCarried (base : WorldState) (layout : Layout) (parts drained : ℕ → Part) : Type 0 where
  pub boxes : (part : ℕ) → (drained part).engine.boxes ≡ (parts part).engine.boxes
  pub channels : (part : ℕ) → (drained part).engine.channels ≡ (parts part).engine.channels
  pub lane_counts : (part : ℕ) → length (drained part).engine.lanes ≡ length (parts part).engine.lanes
  pub inner : (lane : ℕ) → lane < length base.lanes → layout.senders lane ≡ layout.takers lane
      → lane_in layout (states_of drained) lane ≡ lane_in layout (states_of parts) lane
  pub crossing : (lane : ℕ) → LeadsAcross base layout parts lane → IsCarried layout parts drained lane

-- the logs of the parts, which began empty, are in one list
pub record AreLogs (base : WorldState) (layout : Layout) (old new : ℕ → Part) (numbers : List (List ℕ)) (clock : ℕ → ℕ)
    (made : List (List Made)) (woven : List (ℕ × Made)) : Type 0 where
  pub homes : HaveHomes layout numbers old (length base.boxes)
  pub none : (part : ℕ) → (old part).log.items ≡ []
  pub logs : (part : ℕ) → log_at made part ≡ (new part).log.items
  pub weave : AreWoven clock made woven
  pub share : (lane : ℕ) → lane < length base.lanes → clock (layout.senders lane).0 ≡ clock (layout.takers lane).0

-- each part ran, with each retry that was owed, if they were asked for, and else none
abbrev pub HaveRun : Bool → (old new : ℕ → Part) → Type 0
HaveRun retries old new = (part : ℕ) → Runs (old part) (new part) (owed_of retries (old part))

-- what parts of a network do in a phase is what a settle asks for of one
abbrev pub PartsPlay : Type 0
PartsPlay = (retries : Bool) (base : WorldState) (layout : Layout) (old new drained : ℕ → Part)
    (numbers : List (List ℕ)) (clock : ℕ → ℕ) (made : List (List Made)) (woven : List (ℕ × Made))
    → AreParts base layout old → HaveRun retries old new → AreCarried base layout new drained
    → AreLogs base layout old new numbers clock made woven
    → PlaysPhase retries (world_by base layout old) (world_by base layout drained) (map (turn_in numbers) woven)
    (stimuli_in layout old) (stimuli_in layout new) (shifts_in layout old) (shifts_in layout new)

-- and the next phase may begin
abbrev pub PartsGoOn : Type 0
PartsGoOn = (retries : Bool) (base : WorldState) (layout : Layout) (old new drained : ℕ → Part)
    → AreParts base layout old → HaveRun retries old new → AreCarried base layout new drained
    → AreParts base layout drained

-- a sound network stays sound
abbrev pub PartsKeepSound : Type 0
PartsKeepSound = (retries : Bool) (base : WorldState) (layout : Layout) (old new drained : ℕ → Part)
    (numbers : List (List ℕ)) → AreParts base layout old → HaveRun retries old new
    → AreCarried base layout new drained → HaveHomes layout numbers old (length base.boxes)
    → IsSound (world_by base layout old) → IsSound (world_by base layout drained)
