use Rattle.mc_laws.proofs.Chains.{named_links_make_rings}
use Rattle.mc_laws.proofs.laws.named_links_make_rings.Goals as goal

pub returns : goal.returns
returns c = named_links_make_rings
