use Rattle.std.proofs.Common.{drop}
use Rattle.mc_phase.specs.Asked.{AreHandsFor, hand_lists}
use Rattle.mc_phase_tests.proofs.hands.may_ask.Given as goal

-- where operators may ask for the hands that are left, they may ask for all
abbrev pub invariant-loop-hand : goal.invariant-loop-hand
invariant-loop-hand l = AreHandsFor l.world (hand_lists (drop l.hand-index l.hands)) → AreHandsFor l.world (hand_lists l.hands)
