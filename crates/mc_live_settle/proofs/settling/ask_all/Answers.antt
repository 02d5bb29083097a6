use Rattle.std.proofs.Common.{◌≡◌, List, Vec, Global, length, sym, ◌∙◌, ap, subst, arith}
use Rattle.mc_box.specs.declared.event.Turn.{Turn}
use Rattle.mc_live_settle.proofs.Dealt.{are_hands, hands_many}
use Rattle.mc_live_settle.proofs.Ordered.{phase_asks}
use Rattle.mc_live_settle.specs.Orders.{hands_of}
use Rattle.mc_phase.specs.Asked.{AreHandsFor, hand_lists}
use Rattle.mc_live_settle.proofs.settling.ask_all.Goals as goal

pub live_phase-requires-clause-operators : goal.live_phase-requires-clause-operators
live_phase-requires-clause-operators g c κs within =
    let some = c.requires.operators.0 in
    let few = c.requires.operators.1 in
    let many : length c.deref.result.now ≡ c.args.operators = ap (λ (l : List (Vec Turn Global)). length l) c.deref.ensures.value ∙ hands_many c.args.operators c.args.batch.now c.in_ok-hands.hands.items c.in_ok-hands.ensures in
    (omega (arith, many, some), omega (arith, many, few))

pub live_phase-requires-clause-hands : goal.live_phase-requires-clause-hands
live_phase-requires-clause-hands g c κs within =
    subst (AreHandsFor c.args.world) (sym (ap hand_lists c.deref.ensures.value ∙ c.in_ok-hands.ensures)) (are_hands c.args.world c.args.operators c.args.batch.now c.requires.allowed c.requires.commands)

pub returns : goal.returns
returns g c =
    phase_asks c.args.operators c.args.batch.now c.args.world (hand_lists c.deref.result.now) c.live_phase.result c.keeps.ensures.sound (ap hand_lists c.deref.ensures.value ∙ c.in_ok-hands.ensures) c.requires.allowed c.requires.commands
    c.live_phase.ensures.runs c.live_phase.ensures.taken c.live_phase.ensures.commands c.live_phase.ensures.allowed
