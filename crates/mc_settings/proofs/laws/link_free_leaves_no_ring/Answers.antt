use Rattle.mc_settings.proofs.Unlinked.{link_free_leaves_no_ring}
use Rattle.mc_settings.proofs.laws.link_free_leaves_no_ring.Goals as goal

pub returns : goal.returns
returns c = link_free_leaves_no_ring
