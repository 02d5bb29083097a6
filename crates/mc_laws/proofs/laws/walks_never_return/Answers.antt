use Rattle.mc_laws.proofs.RingChains.{walks_never_return}
use Rattle.mc_laws.proofs.laws.walks_never_return.Goals as goal

pub returns : goal.returns
returns c = walks_never_return
