-- A number that each Take of a world without a ring lowers, so that Takes alone come to an end.
use Rattle.std.specs.Prelude.{◌≡◌, ◌≤◌, ◌<◌, ◌+◌, ◌*◌, ◌^◌, ℕ, false, List, length, IsTrue, Some}
use Rattle.std.specs.List.{list_all, sum_by}
use Rattle.mc_link.specs.LinkWeights.{stored_link}
use Rattle.mc_slot.specs.declared.SlotGoal.{SlotGoal}
use Rattle.mc_slot.specs.declared.SlotGoal.TheVariants.{End, Link}
use Rattle.mc_slot_laws.specs.Sums.{total}
use Rattle.mc_slot_laws.specs.Weights.{weights, stored_end}
use Rattle.mc_box.specs.BoxEvents.{is_take}
use Rattle.mc_box.specs.Boxes.{slot_at}
use Rattle.mc_model.specs.Paths.{has_ring, whole_walk}
use Rattle.mc_model.specs.Sound.{IsSound}
use Rattle.mc_model.specs.Steps.{run, step}
use Rattle.mc_model.specs.Worlds.{WorldState, box_at, far, goal_of, all_tunnels, list_to, place, slot_count, slot_of}
use Rattle.mc_box.specs.declared.event.Event.TheVariants.{Take}
use Rattle.mc_box.specs.declared.event.Turn.{Turn}

-- the tunnels from a slot, over its own, to the end of its path there
abbrev pub reach : WorldState → ℕ → ℕ
reach world s = length (whole_walk world s)

-- one more than the tunnels of a world, which no path has
abbrev pub base : WorldState → ℕ
base world = length (all_tunnels world) + 1

-- the opens that a slot stores: one for an end that will open once its closeack comes, and one for a linked slot that
-- is closed, or will be, while its partner asks for media
abbrev pub stored_of : SlotGoal → WorldState → ℕ → ℕ
stored_of (End goal) world s = stored_end goal (slot_of world s).state
stored_of (Link partner) world s =
    stored_link (slot_of world s).state (slot_at (box_at world (place world s).0) partner).state

-- what is still to come of one slot, by a number n and the tunnels from each slot. A signal under way weighs, for each
-- tunnel that it may still go over, 1 for a select or a closeack, n for a describe or a close, n² for an oack and n³
-- for an open; and so does the open that the slot stores
abbrev pub to_come : ℕ → (ℕ → ℕ) → WorldState → ℕ → ℕ
to_come n tunnels world s =
    tunnels (far s) * weights n (list_to world s) + n * (n * n) * (tunnels s * stored_of (goal_of world s) world s)

abbrev pub measure_at : WorldState → ℕ → ℕ
measure_at world = to_come (base world) (reach world) world

-- the same for all slots of a world
abbrev pub measure : WorldState → ℕ
measure world = total (measure_at world) (slot_count world)

-- the number of the signals under way, on all lanes
abbrev pub under_way : WorldState → ℕ
under_way world = sum_by length world.lanes

-- a sound world in which each walk comes to an end
pub record IsRingFree (world : WorldState) : Type 0 where
  pub sound : IsSound world
  pub free : has_ring world ≡ false

-- a Take of a sound world without a ring lowers the measure
abbrev pub TakeLowers : Type 0
TakeLowers =
    (world next : WorldState) (who local : ℕ) → IsRingFree world
    → step world (record { who = who; event = Take local }) ≡ Some next → measure next < measure world

-- so a run of Takes alone has at most as many turns as the measure
abbrev pub TakesEnd : Type 0
TakesEnd =
    (world next : WorldState) (turns : List Turn) → IsRingFree world
    → IsTrue (list_all (λ turn. is_take turn.event) turns) → run world turns ≡ Some next
    → length turns + measure next ≤ measure world

-- a bound on the Takes that may come, by the tunnels T and the signals under way q: 2 (T + 1)⁴ (q + 2 T)
abbrev pub delivery_bound : WorldState → ℕ
delivery_bound world = 2 * base world ^ 4 * (under_way world + 2 * length (all_tunnels world))

-- the measure is at most half of it
abbrev pub MeasureBound : Type 0
MeasureBound = (world : WorldState) → IsSound world → 2 * measure world ≤ delivery_bound world

-- and so is a run of Takes alone, however they are chosen
abbrev pub TakesBound : Type 0
TakesBound =
    (world next : WorldState) (turns : List Turn) → IsRingFree world
    → IsTrue (list_all (λ turn. is_take turn.event) turns) → run world turns ≡ Some next
    → 2 * length turns ≤ delivery_bound world
