use Rattle.mc_live_settle.proofs.Dealt.{one_hand_keeps_order}
use Rattle.mc_live_settle.proofs.laws.one_hand_keeps_order.Goals as goal

pub returns : goal.returns
returns c = one_hand_keeps_order
