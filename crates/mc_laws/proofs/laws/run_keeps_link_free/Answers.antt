use Rattle.mc_laws.proofs.LinkFree.{run_keeps_link_free}
use Rattle.mc_laws.proofs.laws.run_keeps_link_free.Goals as goal

pub returns : goal.returns
returns c = run_keeps_link_free
