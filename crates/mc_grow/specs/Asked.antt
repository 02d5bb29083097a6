-- What a network is asked before a cut and before a Set.
use Rattle.std.specs.Prelude.{ℕ, ◌≡◌, ◌<◌, ◌||◌, Bool, false, List, Option, Some, None}
use Rattle.mc_box.specs.declared.event.Change.TheVariants.{End as NewEnd, Link as NewLink}
use Rattle.mc_box.specs.declared.event.Event.{Event}
use Rattle.mc_box.specs.declared.event.Event.TheVariants.{Set}
use Rattle.mc_growth.specs.Outs.{IsUnprogrammed, channel_at, is_out}
use Rattle.mc_model.specs.Worlds.{WorldState, number, slot_count}

-- a slot may leave the network: it is not out, and its box has no program
pub record MayLeave (world : WorldState) (out : List Bool) (s : ℕ) : Type 0 where
  pub within : is_out out s ≡ false
  pub unprogrammed : IsUnprogrammed world s

-- and so may each slot of a channel
abbrev pub AllMayLeave : WorldState → List Bool → ℕ → Type 0
AllMayLeave world out channel = (s : ℕ) → s < slot_count world → channel_at world s ≡ channel → MayLeave world out s

-- a slot that may not be there is out
abbrev pub is_flagged : List Bool → Option ℕ → Bool
is_flagged out None = false
is_flagged out (Some s) = is_out out s

-- a slot of a box is out
abbrev pub is_out_at : WorldState → List Bool → (who local : ℕ) → Bool
is_out_at world out who local = is_flagged out (number world who local)

-- a Set of a box names a slot that is out
abbrev pub names_out : WorldState → List Bool → ℕ → Event → Bool
names_out world out who (Set (NewEnd local goal)) = is_out_at world out who local
names_out world out who (Set (NewLink first second)) = is_out_at world out who first || is_out_at world out who second
names_out world out who event = false
