use Rattle.std.proofs.Common.{◌≡◌, ◌+◌, ◌++◌, List, drop, sym, ◌∙◌, ap, subst}
use Rattle.std.specs.declared.alloc.Global.{Global}
use Rattle.std.specs.declared.vec.Vec.{Vec}
use Rattle.mc_box.specs.declared.event.Turn.{Turn}
use Rattle.mc_live_settle.proofs.Dealt.{hand_grows, hand_stays}
use Rattle.mc_live_settle.specs.Orders.{hand_from, hand_of}
use Rattle.mc_live_settle.proofs.dealing.deal_hand.Goals as goal
use Rattle.mc_live_settle.proofs.dealing.deal_hand.Goals.{then-place-operators+in_ok-push, else-place-operators}

pub loop-place-preserved : goal.loop-place-preserved
loop-place-preserved c =
    let operators = c.args.operators in
    let operator = c.args.operator in
    let batch = c.args.batch.now in
    let place = c.loop-place.place in
    let whole = hand_of operators batch operator in
    elim c.if-place-operators.branch [
      | then-place-operators+in_ok-push w ↦
          subst (λ (l : List Turn). l ++ hand_from operators operator (place + 1) (drop (place + 1) batch) ≡ whole)
          (sym (ap (λ (v : Vec Turn Global). v.items) w.hand-is ∙ w.in_ok-push.ensures.items))
          (hand_grows operators operator place batch c.loop-place.hand.items whole _ c.loop-place-test.true w.if-place-operators.true c.loop-place.invariant)
      | else-place-operators w ↦
          subst (λ (l : List Turn). l ++ hand_from operators operator (place + 1) (drop (place + 1) batch) ≡ whole)
          (sym (ap (λ (v : Vec Turn Global). v.items) w.hand-is))
          (hand_stays operators operator place batch c.loop-place.hand.items whole c.loop-place-test.true w.if-place-operators.false c.loop-place.invariant)
    ]
