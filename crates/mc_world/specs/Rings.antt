-- Rings by a table of the slots' partners.
use Rattle.std.specs.Prelude.{◌≡◌, ◌<◌, ℕ, List, length, slice_index_or, Option, None}
use Rattle.mc_model.specs.Paths.{partner_of}
use Rattle.mc_model.specs.Worlds.{WorldState, slot_count}

-- a table of the partners of a world's slots, by the slots' numbers
pub record ArePartners (world : WorldState) (partners : List (Option ℕ)) : Type 0 where
  pub long : length partners ≡ slot_count world
  pub each : (s : ℕ) → s < slot_count world → slice_index_or partners s None ≡ partner_of world s
