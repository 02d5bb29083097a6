use Rattle.mc_net_text.proofs.NetsRead.{nets_read}
use Rattle.mc_net_text.proofs.laws.nets_read.Goals as goal

pub returns : goal.returns
returns c = nets_read
