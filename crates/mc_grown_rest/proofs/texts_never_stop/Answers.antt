use Rattle.mc_grown_rest.proofs.NeverStopping.{texts_never_stop}
use Rattle.mc_grown_rest.proofs.texts_never_stop.Goals as goal

pub returns : goal.returns
returns c = texts_never_stop
