use Rattle.std.proofs.Common.{◌≡◌, ◌<◌, ℕ, false}
use Rattle.mc_box.specs.BoxEvents.{is_enabled}
use Rattle.mc_box.specs.declared.event.Event.TheVariants.{Retry}
use Rattle.mc_part.proofs.knowing.box_owes.Given as goal

-- none of those so far
abbrev pub invariant-loop-local : goal.invariant-loop-local
invariant-loop-local l = (other : ℕ) → other < l.local → is_enabled l.home (Retry other) ≡ false
