-- The walk from a slot, over its tunnel and then from link to link.
use Rattle.std.specs.Prelude.{ℕ, length, Option}
use Rattle.std.specs.Option.{option_map}
use Rattle.mc_path.specs.declared.walk.Walked.{Walked}
use Rattle.mc_model.specs.Paths.{other_end, whole_walk}
use Rattle.mc_model.specs.Worlds.{WorldState}

-- the end slot to which the walk from a slot comes, and how many tunnels it goes over; none where the slot is on a ring
abbrev pub walk_from : WorldState → ℕ → Option Walked
walk_from world s =
    option_map (λ last. record { end = last; tunnels = length (whole_walk world s) }) (other_end world s)
