use Rattle.std.proofs.Common.{◌≡◌, ◌<◌, ℕ, false}
use Rattle.mc_box.specs.BoxEvents.{is_enabled}
use Rattle.mc_box.specs.declared.event.Event.TheVariants.{Shift}
use Rattle.mc_model.specs.Worlds.{box_at}
use Rattle.mc_divided.specs.Networks.{world_in}
use Rattle.mc_divided.proofs.looking.first_shifter.Given as goal

-- none of those so far
abbrev pub invariant-loop-who : goal.invariant-loop-who
invariant-loop-who l = (other : ℕ) → other < l.who → is_enabled (box_at (world_in l.network) other) Shift ≡ false
