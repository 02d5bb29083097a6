-- Retries of a part, counted slot by slot.
use Rattle.std.specs.Prelude.{◌==◌, ◌&&◌, ℕ, Bool, if◌then◌else◌, nat_lt}
use Rattle.mc_box.specs.BoxEvents.{is_enabled}
use Rattle.mc_box.specs.declared.event.Event.TheVariants.{Retry}
use Rattle.mc_model.specs.Settles.{world_owes}
use Rattle.mc_model.specs.Worlds.{box_at}
use Rattle.mc_part.specs.Parts.{Runs}
use Rattle.mc_part.specs.declared.part.Part.{Part}

-- whether a slot of a box that is there owes a retry
abbrev pub owes : Part → ℕ → ℕ → Bool
owes part who local = is_enabled (box_at part.engine who) (Retry local)

-- one slot, a box's first slots, one box, and the first boxes
abbrev pub slot_only : ℕ → ℕ → ℕ → ℕ → Bool
slot_only who local at slot = at == who && slot == local

abbrev pub below_slot : ℕ → ℕ → ℕ → ℕ → Bool
below_slot who count at slot = at == who && nat_lt slot count

abbrev pub box_only : ℕ → ℕ → ℕ → Bool
box_only who at slot = at == who

abbrev pub below_box : ℕ → ℕ → ℕ → Bool
below_box count at slot = nat_lt at count

-- the run has each retry of these slots that was owed where it began, and no other
abbrev pub owed_in : (ℕ → ℕ → Bool) → Part → ℕ → ℕ → ℕ
owed_in which part at slot = if which at slot && world_owes part.engine at slot then 1 else 0

abbrev pub HasRetried : (ℕ → ℕ → Bool) → Part → Part → Type 0
HasRetried which a b = Runs a b (owed_in which a)
