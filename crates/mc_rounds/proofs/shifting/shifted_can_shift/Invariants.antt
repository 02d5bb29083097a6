use Rattle.std.proofs.Common.{◌≡◌, ◌<◌, ℕ, IsTrue, Some, slice_get}
use Rattle.mc_box.specs.BoxEvents.{is_shift}
use Rattle.mc_box.specs.declared.event.Turn.{Turn}
use Rattle.mc_divided.specs.Networks.{world_in}
use Rattle.mc_rounds.specs.Since.{ShiftsNone}
use Rattle.mc_rounds.proofs.shifting.shifted_can_shift.Given as goal

-- none of those so far
abbrev pub invariant-loop-at : goal.invariant-loop-at
invariant-loop-at l = (at : ℕ) (turn : Turn) → at < l.at → slice_get l.turns at ≡ Some turn → IsTrue (is_shift turn.event) → ShiftsNone (world_in l.network) turn.who
