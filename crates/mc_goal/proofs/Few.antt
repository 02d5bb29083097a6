-- How much the turn of an end sends.
use Rattle.std.proofs.Common.{◌≤◌, Bool, length, arith}
use Rattle.mc_signal.specs.declared.Descriptor.{Descriptor}
use Rattle.mc_signal.specs.declared.Sender.{Sender}
use Rattle.mc_slot.specs.EndTurn.{end_turn}
use Rattle.mc_slot.specs.declared.Goal.{Goal}
use Rattle.mc_slot.specs.declared.Slot.{Slot}

-- an end sends at most two signals in a turn
pub due_two : (goal : Goal) (slot : Slot) (pushed : Bool) (mine : Descriptor) (me : Sender) → length (end_turn goal slot pushed mine me) ≤ 2
due_two goal slot pushed mine me = grind (arith)
