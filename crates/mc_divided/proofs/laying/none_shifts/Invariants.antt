use Rattle.std.proofs.Common.{◌≡◌, ◌<◌, ℕ, false, get_or}
use Rattle.mc_box.specs.BoxEvents.{is_enabled}
use Rattle.mc_box.specs.Boxes.{no_box}
use Rattle.mc_box.specs.declared.event.Event.TheVariants.{Shift}
use Rattle.mc_divided.proofs.laying.none_shifts.Given as goal

-- none of those so far can
abbrev pub invariant-loop-home : goal.invariant-loop-home
invariant-loop-home l = (who : ℕ) → who < l.home-index → is_enabled (get_or l.boxes who no_box) Shift ≡ false
