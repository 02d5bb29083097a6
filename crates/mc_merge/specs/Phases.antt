-- A phase of parts: the world that they stand for before it, and after it.
use Rattle.std.specs.Prelude.{◌≡◌, ◌≢◌, ◌⊎◌, ◌&&◌, ◌==◌, Bool, count_by, if◌then◌else◌, filter, ℕ, ◌+◌, ◌*◌, ◌<◌, ◌≤◌, IsTrue, List, [], ◌∷◌, ◌++◌, length, map, Some}
use Rattle.std.specs.List.{list_any, range_with_len}
use Rattle.mc_signal.specs.declared.Tagged.{Tagged}
use Rattle.mc_box.specs.BoxEvents.{is_command, is_shift, turn_of}
use Rattle.mc_box.specs.Boxes.{BoxState}
use Rattle.mc_box.specs.declared.event.Event.{Event}
use Rattle.mc_box.specs.declared.event.Turn.{Turn}
use Rattle.mc_box.specs.declared.limit.TheConstants.{SHIFT_LIMIT}
use Rattle.mc_port.specs.Entries.{Entry}
use Rattle.mc_merge.specs.Fronts.{IsLawfulFront}
use Rattle.mc_merge.specs.LaneLogs.{without_stamps}
use Rattle.mc_merge.specs.Lanes.{into_box, leads_from, leads_to, out_of_box, tunnel_at}
use Rattle.mc_merge.specs.Weaving.{AreWoven, turn_in}
use Rattle.mc_merge.specs.Wholes.{AreHomes, AreKept, Numbers, numbers_in}
use Rattle.mc_merge.specs.declared.log.Made.{Made}
use Rattle.mc_model.specs.Settles.{commands_of, is_retry_at, is_retry_of, is_shift_of, world_owes}
use Rattle.mc_model.specs.Sound.{IsSound}
use Rattle.mc_model.specs.Steps.{run}
use Rattle.mc_model.specs.Worlds.{WorldState}
use Rattle.mc_merge.specs.Account.{ComesFromHere, GoesToHere, PartState, part_box, part_lane}
use Rattle.mc_merge.specs.Logs.{own_log}
use Rattle.mc_merge.specs.Together.{HasWorked, Homes, Ran}
use Rattle.mc_port.specs.declared.stamped.Stamped.{Stamped}

-- ---- where all stands

-- for each box, and for both ends of each lane, the part and the number there
pub record Layout : Type 0 where
  pub homes : Homes
  pub senders : ℕ → ℕ × ℕ
  pub takers : ℕ → ℕ × ℕ

-- a box of the world, and what is under way on a lane, which waits where it is taken
abbrev pub box_in : Layout → (ℕ → PartState) → ℕ → BoxState
box_in layout states who = part_box (states (layout.homes who).0) (layout.homes who).1

abbrev pub lane_in : Layout → (ℕ → PartState) → ℕ → List Tagged
lane_in layout states lane = part_lane (states (layout.takers lane).0) (layout.takers lane).1

abbrev pub before_ring : Layout → (ℕ → PartState) → ℕ → List Tagged
before_ring layout states lane = part_lane (states (layout.senders lane).0) (layout.senders lane).1

-- the world that the parts stand for, which has the channels of this one, and as many boxes and lanes
abbrev pub stands_for : WorldState → Layout → (ℕ → PartState) → WorldState
stands_for base layout states = record base {
  boxes = map (box_in layout states) (range_with_len 0 (length base.boxes));
  lanes = map (lane_in layout states) (range_with_len 0 (length base.lanes));
}

pub record SendsAt (base : WorldState) (layout : Layout) (tables : ℕ → WorldState) (states : ℕ → PartState)
    (lane part at : ℕ) : Type 0 where
  pub there : at < length (states part).lanes
  pub here : ComesFromHere (tables part) (states part) at
  pub home : layout.homes (leads_from base lane) ≡ (part, leads_from (tables part) at)
  pub tunnels : (local : ℕ) → out_of_box (tables part) (leads_from (tables part) at) at local
      ≡ out_of_box base (leads_from base lane) lane local

pub record TakesAt (base : WorldState) (layout : Layout) (tables : ℕ → WorldState) (states : ℕ → PartState)
    (lane part at : ℕ) : Type 0 where
  pub there : at < length (states part).lanes
  pub here : GoesToHere (tables part) (states part) at
  pub home : layout.homes (leads_to base lane) ≡ (part, leads_to (tables part) at)
  pub tunnels : (local : ℕ) → into_box (tables part) (leads_to (tables part) at) at local
      ≡ into_box base (leads_to base lane) lane local

-- the ends of a lane stand in two parts, each beside a place holder
pub record IsApart (layout : Layout) (tables : ℕ → WorldState) (states : ℕ → PartState) (lane : ℕ) : Type 0 where
  pub away : length (states (layout.senders lane).0).boxes ≤ leads_to (tables (layout.senders lane).0)
      (layout.senders lane).1
  pub off : length (states (layout.takers lane).0).boxes ≤ leads_from (tables (layout.takers lane).0)
      (layout.takers lane).1

pub record IsLayout (base : WorldState) (layout : Layout) (tables : ℕ → WorldState)
    (states : ℕ → PartState) : Type 0 where
  pub each_lane : length base.lanes ≡ 2 * length base.channels
  pub tunnels : (who : ℕ) → who < length base.boxes → (local : ℕ)
      → tunnel_at (tables (layout.homes who).0) (layout.homes who).1 local ≡ tunnel_at base who local
  -- what is no box of the world is none of a part
  pub none : (who : ℕ) → length base.boxes ≤ who → length (states (layout.homes who).0).boxes ≤ (layout.homes who).1
  pub sends : (lane : ℕ) → lane < length base.lanes → SendsAt base layout tables states lane (layout.senders lane).0
      (layout.senders lane).1
  pub takes : (lane : ℕ) → lane < length base.lanes → TakesAt base layout tables states lane (layout.takers lane).0
      (layout.takers lane).1
  pub kinds : (lane : ℕ) → lane < length base.lanes → (layout.senders lane ≡ layout.takers lane)
      ⊎ IsApart layout tables states lane

-- nothing waits before a ring
abbrev pub AreEmptied : WorldState → Layout → (ℕ → WorldState) → (ℕ → PartState) → Type 0
AreEmptied base layout tables states = (lane : ℕ) → lane < length base.lanes → IsApart layout tables states lane
    → before_ring layout states lane ≡ []

-- ---- a phase

-- what a ring gave, and what was left in it, was put into it; the rest was drained to the far end
pub record IsDrained (layout : Layout) (parts : ℕ → Ran) (drained : ℕ → PartState) (lane : ℕ) : Type 0 where
  pub left : List Stamped
  pub ring : (parts (layout.takers lane).0).gave (layout.takers lane).1 ++ left
      ≡ (parts (layout.senders lane).0).put (layout.senders lane).1
  pub rest : lane_in layout drained lane ≡ lane_in layout (λ part. (parts part).new) lane
      ++ (without_stamps left ++ before_ring layout (λ part. (parts part).new) lane)
  pub empty : before_ring layout drained lane ≡ []

-- the parts have worked, and then the rings were drained
pub record IsPhase (base : WorldState) (layout : Layout) (parts : ℕ → Ran) (drained : ℕ → PartState) : Type 0 where
  pub laid : IsLayout base layout (λ part. (parts part).tables) (λ part. (parts part).old)
  pub empty : AreEmptied base layout (λ part. (parts part).tables) (λ part. (parts part).old)
  pub worked : (part : ℕ) → HasWorked (parts part)
  pub boxes : (part : ℕ) → (drained part).boxes ≡ (parts part).new.boxes
  pub lane_counts : (part : ℕ) → length (drained part).lanes ≡ length (parts part).new.lanes
  pub inner : (lane : ℕ) → lane < length base.lanes → layout.senders lane ≡ layout.takers lane
      → lane_in layout drained lane ≡ lane_in layout (λ part. (parts part).new) lane
  pub crossing : (lane : ℕ) → lane < length base.lanes → IsApart layout (λ part. (parts part).tables)
      (λ part. (parts part).old) lane → IsDrained layout parts drained lane

-- its merged logs
pub record IsMerge (base : WorldState) (layout : Layout) (parts : ℕ → Ran) (numbers : List (List ℕ)) (clock : ℕ → ℕ)
    (made : List (List Made)) (woven : List (ℕ × Made)) : Type 0 where
  pub homes_are : AreHomes layout.homes parts (numbers_in numbers) (length base.boxes)
  pub kept : AreKept parts made
  pub weave : AreWoven clock made woven
  -- the parts at both ends of a lane have one clock
  pub share : (lane : ℕ) → lane < length base.lanes → clock (layout.senders lane).0 ≡ clock (layout.takers lane).0

abbrev pub PhaseIsRun : Type 0
PhaseIsRun = (base : WorldState) (layout : Layout) (parts : ℕ → Ran) (drained : ℕ → PartState)
    (numbers : List (List ℕ)) (clock : ℕ → ℕ) (made : List (List Made)) (woven : List (ℕ × Made))
    → IsPhase base layout parts drained → IsMerge base layout parts numbers clock made woven
    → run (stands_for base layout (λ part. (parts part).old)) (map (turn_in numbers) woven)
    ≡ Some (stands_for base layout drained)

-- and the next phase may begin
abbrev pub PhaseGoesOn : Type 0
PhaseGoesOn = (base : WorldState) (layout : Layout) (parts : ℕ → Ran) (drained : ℕ → PartState)
    → IsPhase base layout parts drained
    → IsLayout base layout (λ part. (parts part).tables) drained
    × AreEmptied base layout (λ part. (parts part).tables) drained

-- ---- commands, Shifts and retries

-- what a box's entries use up of its commands and count of its Shifts, and how many retries of each slot they are
pub record IsUse (retries : ℕ → ℕ) (entries : List Entry) (stimuli stimuli_2 : List Event)
    (shifts shifts_2 : ℕ) : Type 0 where
  pub commands : map (λ (entry : Entry). entry.event) (filter (λ (entry : Entry). is_command entry.event) entries)
      ++ stimuli_2 ≡ stimuli
  pub shifts_are : shifts_2 ≡ shifts + count_by (λ (entry : Entry). is_shift entry.event) entries
  pub few : shifts_2 ≤ SHIFT_LIMIT
  pub retried : (local : ℕ) → count_by (λ (entry : Entry). is_retry_at local entry.event) entries ≡ retries local

-- each box of the world by its log in its part: one retry for each slot that owed one, where they were asked for, and
-- else none
abbrev pub AreUses : Bool → WorldState → Layout → (ℕ → Ran) → (stimuli stimuli_2 : ℕ → List Event)
    → (shifts shifts_2 : ℕ → ℕ) → Type 0
AreUses retries base layout parts stimuli stimuli_2 shifts shifts_2 = (who : ℕ)
    → IsUse (λ local. if retries && world_owes (stands_for base layout (λ part. (parts part).old)) who local then 1
    else 0) (own_log (layout.homes who).1 (parts (layout.homes who).0).log) (stimuli who) (stimuli_2 who)
    (shifts who) (shifts_2 who)

-- what the settle asks for of a phase
pub record PlaysPhase (retries : Bool) (world last : WorldState) (turns : List Turn)
    (stimuli stimuli_2 : ℕ → List Event) (shifts shifts_2 : ℕ → ℕ) : Type 0 where
  pub runs : run world turns ≡ Some last
  pub commands : (who : ℕ) → commands_of who turns ++ map (turn_of who) (stimuli_2 who)
      ≡ map (turn_of who) (stimuli who)
  pub shifts_are : (who : ℕ) → shifts_2 who ≡ shifts who + count_by (is_shift_of who) turns
  pub few_shifts : (who : ℕ) → shifts_2 who ≤ SHIFT_LIMIT
  pub retried : (who local : ℕ) → count_by (is_retry_of who local) turns
      ≡ (if retries && world_owes world who local then 1 else 0)

abbrev pub PhasePlays : Type 0
PhasePlays = (retries : Bool) (base : WorldState) (layout : Layout) (parts : ℕ → Ran) (drained : ℕ → PartState)
    (numbers : List (List ℕ)) (clock : ℕ → ℕ) (made : List (List Made)) (woven : List (ℕ × Made))
    (stimuli stimuli_2 : ℕ → List Event) (shifts shifts_2 : ℕ → ℕ)
    → IsPhase base layout parts drained → IsMerge base layout parts numbers clock made woven
    → AreUses retries base layout parts stimuli stimuli_2 shifts shifts_2
    → PlaysPhase retries (stands_for base layout (λ part. (parts part).old)) (stands_for base layout drained)
    (map (turn_in numbers) woven) stimuli stimuli_2 shifts shifts_2

-- a box that had an entry made a turn
abbrev pub EntriesAreTurns : Type 0
EntriesAreTurns = (base : WorldState) (layout : Layout) (parts : ℕ → Ran) (drained : ℕ → PartState)
    (numbers : List (List ℕ)) (clock : ℕ → ℕ) (made : List (List Made)) (woven : List (ℕ × Made)) (who : ℕ)
    → IsPhase base layout parts drained → IsMerge base layout parts numbers clock made woven
    → own_log (layout.homes who).1 (parts (layout.homes who).0).log ≢ []
    → IsTrue (list_any (λ (turn : Turn). turn.who == who) (map (turn_in numbers) woven))

-- ---- what waits

-- from a sound world they lead to a sound one
abbrev pub PhaseKeepsSound : Type 0
PhaseKeepsSound = (base : WorldState) (layout : Layout) (parts : ℕ → Ran) (drained : ℕ → PartState)
    (numbers : Numbers) → IsPhase base layout parts drained → AreHomes layout.homes parts numbers (length base.boxes)
    → IsSound (stands_for base layout (λ part. (parts part).old)) → IsSound (stands_for base layout drained)

-- so whatever is at the front where a part takes from a lane, when it ends, is for a slot that may take it: no part
-- ends at a strange signal
abbrev pub NoneStrange : Type 0
NoneStrange = (base : WorldState) (layout : Layout) (parts : ℕ → Ran) (drained : ℕ → PartState) (numbers : Numbers)
    (lane : ℕ) (tagged : Tagged) (rest : List Tagged) → IsPhase base layout parts drained
    → AreHomes layout.homes parts numbers (length base.boxes)
    → IsSound (stands_for base layout (λ part. (parts part).old)) → lane < length base.lanes
    → lane_in layout (λ part. (parts part).new) lane ≡ tagged ∷ rest
    → IsLawfulFront (stands_for base layout drained) lane tagged
