-- How many slots of a world owe a retry, and how many boxes have an enabled Shift: in all, and of one box.
use Rattle.std.specs.Prelude.{◌≡◌, ℕ, length}
use Rattle.mc_box.specs.BoxEvents.{is_enabled}
use Rattle.mc_box.specs.Boxes.{BoxState, box_owes}
use Rattle.mc_box.specs.declared.event.Event.TheVariants.{Shift}
use Rattle.mc_model.specs.Worlds.{WorldState, box_at}
use Rattle.mc_slot_laws.specs.Sums.{total}
use Rattle.mc_world.specs.Waiting.{bit}
use Rattle.mc_replay.specs.declared.counts.Counts.{Counts}

-- how many slots of a box owe a retry
abbrev pub owed_in : BoxState → ℕ
owed_in box = total (λ local. bit (box_owes box local)) (length box.slots)

-- 1 where its program has an enabled transition, and else 0
abbrev pub ready_in : BoxState → ℕ
ready_in box = bit (is_enabled box Shift)

-- how many slots of a world owe a retry
abbrev pub owed_count : WorldState → ℕ
owed_count world = total (λ who. owed_in (box_at world who)) (length world.boxes)

-- how many of its boxes have an enabled transition
abbrev pub ready_count : WorldState → ℕ
ready_count world = total (λ who. ready_in (box_at world who)) (length world.boxes)

-- both of a world
pub record AreCounted (world : WorldState) (counts : Counts) : Type 0 where
  pub owed : counts.owed ≡ owed_count world
  pub ready : counts.ready ≡ ready_count world

-- and of one box
pub record AreOfBox (box : BoxState) (counts : Counts) : Type 0 where
  pub owed : counts.owed ≡ owed_in box
  pub ready : counts.ready ≡ ready_in box
