use Rattle.mc_laws.proofs.Exchanges.{worked_exchanges}
use Rattle.mc_laws.proofs.laws.worked_exchanges.Goals as goal

pub returns : goal.returns
returns c = worked_exchanges
