use Rattle.std.proofs.Common.{ap, ◌++◌, ◌∷◌, [], List, ◌∙◌, sym, arith}
use Rattle.std.proofs.lemmas.Grind.{common_steps}
use Rattle.std.specs.declared.alloc.Global.{Global}
use Rattle.std.specs.declared.vec.Vec.{Vec}
use Rattle.mc_box.specs.declared.event.Turn.{Turn}
use Rattle.mc_live_settle.proofs.Dealt.{hands_grow}
use Rattle.mc_live_settle.proofs.dealing.deal.Goals as goal

pub loop-operator-preserved : goal.loop-operator-preserved
loop-operator-preserved c =
    hands_grow c.args.operators c.loop-operator.operator c.args.batch.now c.loop-operator.hands.items c.push.new.self.items c.in_ok-deal_hand.field-0 c.loop-operator.invariant c.in_ok-push.ensures.items c.in_ok-deal_hand.ensures
