-- The boxes of a network in parts, as they are read off the parts.
use Rattle.std.proofs.Common.{◌≡◌, ◌<◌, ◌+◌, ℕ, false, List, length, get_or, ap, sym, ◌∙◌, subst, arith}
use Rattle.std.proofs.lemmas.List.{get_or-map, get_or_default, length-map}
use Rattle.std.proofs.lemmas.List.Folds.{list_any_none}
use Rattle.std.proofs.lemmas.List.FromFn.{get_or-map-range_with_len, length-map-range_with_len}
use Rattle.mc_box.specs.BoxEvents.{is_enabled}
use Rattle.mc_box.specs.Boxes.{BoxState, goal_at, no_box}
use Rattle.mc_box.specs.declared.event.Event.TheVariants.{Shift}
use Rattle.mc_part.specs.Divisions.{home_at, members, part_of}
use Rattle.mc_part.proofs.Members.{home_inside}
use Rattle.mc_model.specs.Settles.{can_shift}
use Rattle.mc_model.specs.Worlds.{WorldState, box_at, goal_of, place, slot_count}
use Rattle.mc_divided.specs.Networks.{IsDividedNetwork, base_of, network_layout, no_part, states_among, world_in}
use Rattle.mc_divided.specs.declared.network.DividedNetwork.{DividedNetwork}
use Rattle.mc_part.specs.Parts.{state_of}
use Rattle.mc_part.specs.declared.part_run.PartRun.{PartRun}
use Rattle.mc_slot.specs.declared.SlotGoal.{SlotGoal}
use Rattle.mc_merge.specs.Account.{PartState, part_box}
use Rattle.mc_merge.specs.Phases.{box_in}

-- there are as many boxes as are assigned
pub base_count : (network : DividedNetwork) → length (base_of network).boxes ≡ length network.assigned.items
base_count network = length-map network.assigned.items (λ (part : ℕ). no_box)

pub box_count : (network : DividedNetwork) → length (world_in network).boxes ≡ length network.assigned.items
box_count network =
    length-map-range_with_len (box_in (network_layout network) (states_among network.runs.items)) 0
    (length (base_of network).boxes) ∙ base_count network

-- a box stands in its part
pub box_there : (network : DividedNetwork) (who : ℕ) → who < length network.assigned.items
    → box_at (world_in network) who ≡ box_in (network_layout network) (states_among network.runs.items) who
box_there network who inside =
    let start : 0 + who ≡ who = omega arith in
    let below : who < length (base_of network).boxes = omega (arith, base_count network, inside) in
    get_or-map-range_with_len (box_in (network_layout network) (states_among network.runs.items)) 0
    (length (base_of network).boxes) who who no_box below start

-- the state of a part that is there
pub state_there : (runs : List PartRun) (part : ℕ) (run : PartRun) → part < length runs → run ≡ get_or runs part run
    → states_among runs part ≡ state_of run.part
state_there runs part run inside read =
    get_or-map (λ (r : PartRun). state_of r.part) runs part run no_part inside
    ∙ ap (λ (r : PartRun). state_of r.part) (sym read)

-- ---- a box that is read

pub record IsBoxRead (network : DividedNetwork) (who number : ℕ) (run : PartRun) : Type 0 where
  pub inside : number < length run.part.engine.boxes
  pub is : box_at (world_in network) who ≡ get_or run.part.engine.boxes number no_box

-- by its part and its number there
pub box_read : (network : DividedNetwork) (who part number : ℕ) (run : PartRun) → IsDividedNetwork network
    → who < length network.assigned.items → part ≡ get_or network.assigned.items who part
    → number ≡ get_or network.numbers.items who number → run ≡ get_or network.runs.items part run
    → IsBoxRead network who number run
box_read network who part number run divided inside part_read number_read run_read =
    let part_is : part ≡ part_of network.assigned.items who =
    part_read ∙ get_or_default network.assigned.items who part 0 inside in
    let number_there : who < length network.numbers.items = omega (arith, divided.numbers.count, inside) in
    let number_is : number ≡ (home_at network.assigned.items who).1 =
    number_read ∙ (get_or_default network.numbers.items who number 0 number_there ∙ divided.numbers.each who inside) in
    let below : part < length network.runs.items =
    subst (λ (p : ℕ). p < length network.runs.items) (sym part_is) (divided.assigned who 0 inside) in
    let state : states_among network.runs.items part ≡ state_of run.part =
    state_there network.runs.items part run below run_read in
    let count : length run.part.engine.boxes ≡ length (members network.assigned.items part) =
    ap (λ (s : PartState). length s.boxes) (sym state) ∙ divided.boxes part below in
    let home : number < length (members network.assigned.items part) =
    subst (λ (n : ℕ). n < length (members network.assigned.items part)) (sym number_is)
    (subst (λ (p : ℕ). (home_at network.assigned.items who).1 < length (members network.assigned.items p))
    (sym part_is) (home_inside network.assigned.items who inside)) in
    record {
      inside = omega (arith, count, home);
      is = box_there network who inside
          ∙ (ap (λ (p : ℕ). part_box (states_among network.runs.items p) (home_at network.assigned.items who).1)
          (sym part_is)
          ∙ (ap (λ (s : PartState). part_box s (home_at network.assigned.items who).1) state
          ∙ ap (λ (n : ℕ). part_box (state_of run.part) n) (sym number_is)));
    }

-- ---- Shifts

-- where no box can make one
pub none_shifts : (world : WorldState)
    → ((who : ℕ) → who < length world.boxes → is_enabled (box_at world who) Shift ≡ false) → can_shift world ≡ false
none_shifts world none =
    list_any_none (λ (one : BoxState). is_enabled one Shift) world.boxes
    (λ k d below. ap (λ (one : BoxState). is_enabled one Shift) (get_or_default world.boxes k d no_box below)
    ∙ none k below)

-- ---- goals

-- where the box of a slot stands
pub place_inside : (network : DividedNetwork) (slot : ℕ) (at : ℕ × ℕ) → IsDividedNetwork network
    → slot < slot_count (world_in network) → at ≡ place (world_in network) slot
    → at.0 < length network.assigned.items
place_inside network slot at divided inside at_is =
    let there : at.0 < length (world_in network).boxes =
    subst (λ (p : ℕ × ℕ). p.0 < length (world_in network).boxes) (sym at_is)
    (divided.sound.numbered.placed slot inside) in
    omega (arith, there, box_count network)

-- and the slot in the box
pub slot_inside : (network : DividedNetwork) (slot : ℕ) (at : ℕ × ℕ) (one : BoxState) → IsDividedNetwork network
    → slot < slot_count (world_in network) → at ≡ place (world_in network) slot
    → one ≡ box_at (world_in network) at.0 → at.1 < length one.slots
slot_inside network slot at one divided inside at_is one_is =
    let there : at.1 < length (box_at (world_in network) at.0).slots =
    subst (λ (p : ℕ × ℕ). p.1 < length (box_at (world_in network) p.0).slots) (sym at_is)
    (divided.sound.numbered.slots slot inside) in
    subst (λ (b : BoxState). at.1 < length b.slots) (sym one_is) there

-- the goal that is read there
pub goal_read : (network : DividedNetwork) (slot : ℕ) (at : ℕ × ℕ) (one : BoxState) (goal : SlotGoal)
    → at ≡ place (world_in network) slot → one ≡ box_at (world_in network) at.0 → goal ≡ goal_at one at.1
    → goal_of (world_in network) slot ≡ goal
goal_read network slot at one goal at_is one_is goal_is =
    ap (λ (p : ℕ × ℕ). goal_at (box_at (world_in network) p.0) p.1) (sym at_is)
    ∙ (ap (λ (b : BoxState). goal_at b at.1) (sym one_is) ∙ sym goal_is)
