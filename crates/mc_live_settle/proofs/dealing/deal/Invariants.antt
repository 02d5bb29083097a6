use Rattle.std.proofs.Common.{◌≡◌, map}
use Rattle.std.specs.List.{range_with_len}
use Rattle.mc_live_settle.specs.Orders.{hand_of}
use Rattle.mc_phase.specs.Asked.{hand_lists}
use Rattle.mc_live_settle.proofs.dealing.deal.Given as goal

abbrev pub invariant-loop-operator : goal.invariant-loop-operator
invariant-loop-operator l = hand_lists l.hands.items ≡ map (hand_of l.operators l.batch) (range_with_len 0 l.operator)
