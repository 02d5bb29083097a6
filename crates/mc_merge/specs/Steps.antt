-- What makes turns and what goes through rings, as the engine of a part does it.
use Rattle.std.specs.Prelude.{◌≡◌, ◌≢◌, ◌⊎◌, ◌==◌, Contains, ℕ, ◌+◌, ◌*◌, ◌≤◌, if◌then◌else◌, List, [], ◌++◌, length, max, Some}
use Rattle.std.specs.List.{AllByRecursion}
use Rattle.mc_box.specs.BoxEvents.{turn_of}
use Rattle.mc_box.specs.declared.event.Event.{Event}
use Rattle.mc_merge.specs.LaneLogs.{without_stamps}
use Rattle.mc_merge.specs.Lanes.{leads_from, leads_to}
use Rattle.mc_model.specs.Steps.{step}
use Rattle.mc_model.specs.Worlds.{WorldState}
use Rattle.mc_merge.specs.Account.{IsPartWork, PartState, part_lane}
use Rattle.mc_merge.specs.Clocks.{IsClocked, item_stamps}
use Rattle.mc_merge.specs.Logs.{Own}
use Rattle.mc_merge.specs.Turns.{IsTurn, no_items}
use Rattle.mc_port.specs.declared.stamped.Stamped.{Stamped}

-- a part as a world: its tables, with its boxes and lanes
abbrev pub part_world : WorldState → PartState → WorldState
part_world tables part = record tables { boxes = part.boxes; lanes = part.lanes }

-- ---- a turn

-- a step of that world, with the next stamp
pub record IsStep (tables : WorldState) (a b : PartState) (who : ℕ) (event : Event) : Type 0 where
  pub each_lane : length a.lanes ≡ 2 * length tables.channels
  pub goes : step (part_world tables a) (turn_of who event) ≡ Some (part_world tables b)
  pub stamp : b.stamp ≡ max a.stamp a.heard + 1
  pub heard : b.heard ≡ a.heard

-- and the entry that such a step makes
pub record MakesTurn (tables : WorldState) (a b : PartState) (who : ℕ) (event : Event) : Type 0 where
  pub own : Own
  pub box : own.who ≡ who
  pub event_is : own.entry.event ≡ event
  pub stamp : own.entry.stamp ≡ b.stamp
  pub turn : IsTurn tables a b own

abbrev pub StepsAreTurns : Type 0
StepsAreTurns = (tables : WorldState) (a b : PartState) (who : ℕ) (event : Event) → IsStep tables a b who event
    → MakesTurn tables a b who event

-- ---- rings

-- items at one lane alone
abbrev pub at_lane : ℕ → List Stamped → ℕ → List Stamped
at_lane lane items other = if other == lane then items else []

-- what a ring gave comes to the end of a lane that comes in, without its stamps, the greatest of which is heard
pub record ComesIn (tables : WorldState) (a b : PartState) (lane : ℕ) (items : List Stamped) : Type 0 where
  pub off : length a.boxes ≤ leads_from tables lane
  pub boxes : b.boxes ≡ a.boxes
  pub lane_count : length b.lanes ≡ length a.lanes
  pub lane_is : part_lane b lane ≡ part_lane a lane ++ without_stamps items
  pub others : (other : ℕ) → other ≢ lane → part_lane b other ≡ part_lane a other
  pub stamp : b.stamp ≡ a.stamp
  pub more : a.heard ≤ b.heard
  pub heard : AllByRecursion (λ (item : Stamped). item.stamp ≤ b.heard) items
  pub from : (b.heard ≡ a.heard) ⊎ Contains (item_stamps items) b.heard

abbrev pub ComingIsWork : Type 0
ComingIsWork = (tables : WorldState) (a b : PartState) (lane : ℕ) (items : List Stamped)
    → ComesIn tables a b lane items → IsPartWork tables a b [] (at_lane lane items) no_items

-- the front of a lane that goes out is put into a ring, with the stamp of the part's last turn
pub record GoesOut (tables : WorldState) (a b : PartState) (lane : ℕ) (items : List Stamped) : Type 0 where
  pub away : length a.boxes ≤ leads_to tables lane
  pub boxes : b.boxes ≡ a.boxes
  pub lane_count : length b.lanes ≡ length a.lanes
  pub lane_is : part_lane a lane ≡ without_stamps items ++ part_lane b lane
  pub others : (other : ℕ) → other ≢ lane → part_lane b other ≡ part_lane a other
  pub stamp : b.stamp ≡ a.stamp
  pub heard : b.heard ≡ a.heard
  pub stamped : AllByRecursion (λ (item : Stamped). item.stamp ≡ a.stamp) items

abbrev pub GoingIsWork : Type 0
GoingIsWork = (tables : WorldState) (a b : PartState) (lane : ℕ) (items : List Stamped)
    → GoesOut tables a b lane items → IsPartWork tables a b [] no_items (at_lane lane items)

-- and both are clocked
abbrev pub RingsAreClocked : Type 0
RingsAreClocked = (tables : WorldState) (a b : PartState) (lane : ℕ) (items : List Stamped)
    → (ComesIn tables a b lane items → IsClocked a b [] (at_lane lane items) no_items)
    × (GoesOut tables a b lane items → IsClocked a b [] no_items (at_lane lane items))
