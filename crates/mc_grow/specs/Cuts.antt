-- What a cut answers, and where the slots of a channel are.
use Rattle.std.specs.Prelude.{ℕ, ◌≡◌, ◌<◌, ◌≤◌, true, false, Option, Some, None, Result, Ok, Err}
use Rattle.mc_growth.specs.Outs.{channel_at, is_of}
use Rattle.mc_grow.specs.declared.grown.InUse.{InUse}
use Rattle.mc_model.specs.Worlds.{WorldState, slot_count}

-- the least slot in use, where there is one
abbrev pub unless_used : Option ℕ → Result (Unit {0}) InUse
unless_used None = Ok tt
unless_used (Some slot) = Err record { slot = slot }

-- the first slot whose channel isn't below this one: all slots before it are of channels below
pub record IsFirstFrom (world : WorldState) (channel first : ℕ) : Type 0 where
  pub inside : first ≤ slot_count world
  pub before : (s : ℕ) → s < first → channel_at world s < channel
  pub after : (s : ℕ) → first ≤ s → s < slot_count world → channel ≤ channel_at world s

-- the slots of a channel are those from a first one to before an end
pub record AreSlotsOf (world : WorldState) (channel first end : ℕ) : Type 0 where
  pub rise : first ≤ end
  pub inside : end ≤ slot_count world
  pub before : (s : ℕ) → s < first → is_of world channel s ≡ false
  pub within : (s : ℕ) → first ≤ s → s < end → is_of world channel s ≡ true
  pub after : (s : ℕ) → end ≤ s → s < slot_count world → is_of world channel s ≡ false
