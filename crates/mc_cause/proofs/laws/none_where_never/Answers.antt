use Rattle.mc_cause.proofs.Never.{none_where_never}
use Rattle.mc_cause.proofs.laws.none_where_never.Goals as goal

pub returns : goal.returns
returns c = none_where_never
