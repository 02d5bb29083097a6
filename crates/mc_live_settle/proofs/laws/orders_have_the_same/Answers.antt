use Rattle.mc_live_settle.proofs.Dealt.{orders_have_the_same}
use Rattle.mc_live_settle.proofs.laws.orders_have_the_same.Goals as goal

pub returns : goal.returns
returns c = orders_have_the_same
