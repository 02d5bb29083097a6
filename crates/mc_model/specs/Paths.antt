-- Paths and rings: chains of tunnels and links.
use Rattle.std.specs.Prelude.{ℕ, zero, suc, Bool, if◌then◌else◌, List, [], ◌∷◌, length, map, nat_lt, Option, Some, None}
use Rattle.std.specs.List.{enumerate_from, filter_map, find, flat_map, list_any, slice_get}
use Rattle.std.specs.Option.{option_and_then, is_none}
use Rattle.mc_slot.specs.EndTurn.{is_end_goal}
use Rattle.mc_slot.specs.declared.Goal.{Goal}
use Rattle.mc_slot.specs.declared.Goal.TheVariants.{Close as ToClose}
use Rattle.mc_slot.specs.declared.SlotGoal.{SlotGoal}
use Rattle.mc_slot.specs.declared.SlotGoal.TheVariants.{End, Link}
use Rattle.mc_model.specs.Worlds.{WorldState, all_tunnels, places, place, number, far, goal_of}

abbrev pub partner_by : WorldState → SlotGoal → ℕ → Option ℕ
partner_by world (End goal) s = None
partner_by world (Link partner) s = number world (place world s).0 partner

-- the number of the slot that a slot is linked with
abbrev pub partner_of : WorldState → ℕ → Option ℕ
partner_of world s = partner_by world (goal_of world s) s

-- the slot that is one tunnel and one link on: the partner of the far slot
abbrev pub next_slot : WorldState → ℕ → Option ℕ
next_slot world s = partner_of world (far s)

-- the walk from a slot, if there is one, within so many tunnels: the slots from which it goes over them
abbrev pub walk : WorldState → Option ℕ → ℕ → List ℕ
walk world None most = []
walk world (Some s) zero = []
walk world (Some s) (suc most) = s ∷ walk world (next_slot world s) most

-- the walk from a slot within as many tunnels as there are: the whole of it, unless it goes round a ring
abbrev pub whole_walk : WorldState → ℕ → List ℕ
whole_walk world s = walk world (Some s) (length (all_tunnels world))

-- the end to which a walk from these slots comes: the far slot of one of them that is an end
abbrev pub end_after : WorldState → List ℕ → Option ℕ
end_after world slots = find (λ s. is_end_goal (goal_of world s)) (map far slots)

-- the other end of the path of a slot; none where the slot is on a ring
abbrev pub other_end : WorldState → ℕ → Option ℕ
other_end world s = end_after world (whole_walk world s)

-- the slot that is so many tunnels and links on from a slot
abbrev pub slot_after : WorldState → ℕ → ℕ → Option ℕ
slot_after world count s = slice_get (walk world (Some s) (suc count)) count

-- a path by its two end slots, the lower first
pub record PathEnds : Type 0 where
  pub low : ℕ
  pub high : ℕ

abbrev pub from_low : ℕ → ℕ → Option PathEnds
from_low s t = if nat_lt s t then Some (record { low = s; high = t }) else None

-- both slots of tunnels, by the slot on one side of each
abbrev pub both_sides : List ℕ → List ℕ
both_sides slots = flat_map (λ s. s ∷ far s ∷ []) slots

-- all slots of a path, from its lower end to its higher
abbrev pub slots_on : WorldState → PathEnds → List ℕ
slots_on world path = both_sides (whole_walk world path.low)

-- the path of which a slot is the lower end
abbrev pub path_from : WorldState → ℕ → Option PathEnds
path_from world s = if is_end_goal (goal_of world s) then option_and_then (from_low s) (other_end world s) else None

-- all paths, in the order of their lower end slots
abbrev pub paths : WorldState → List PathEnds
paths world = filter_map (λ entry. path_from world entry.0) (enumerate_from 0 (places world))

-- some slot is on a closed chain of tunnels and links
abbrev pub has_ring : WorldState → Bool
has_ring world = list_any (λ entry. is_none (other_end world entry.0)) (enumerate_from 0 (places world))

abbrev pub end_goal_of : SlotGoal → Goal
end_goal_of (End goal) = goal
end_goal_of (Link partner) = ToClose

-- the goal of an end slot
abbrev pub end_goal : WorldState → ℕ → Goal
end_goal world s = end_goal_of (goal_of world s)
