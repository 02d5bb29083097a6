use Rattle.std.proofs.Common.{◌≡◌, ◌++◌, drop}
use Rattle.mc_live_settle.specs.Orders.{hand_from, hand_of}
use Rattle.mc_live_settle.proofs.dealing.deal_hand.Given as goal

abbrev pub invariant-loop-place : goal.invariant-loop-place
invariant-loop-place l = l.hand.items ++ hand_from l.operators l.operator l.place (drop l.place l.batch) ≡ hand_of l.operators l.batch l.operator
