use Rattle.mc_laws.proofs.Chains.{named_links_close_none}
use Rattle.mc_laws.proofs.laws.named_links_close_none.Goals as goal

pub returns : goal.returns
returns c = named_links_close_none
