use Rattle.mc_script.proofs.Read.{printed_is_read}
use Rattle.mc_script.proofs.laws.printed_is_read.Goals as goal

pub returns : goal.returns
returns c = printed_is_read
