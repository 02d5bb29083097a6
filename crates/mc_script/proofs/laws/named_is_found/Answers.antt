use Rattle.mc_script.proofs.Read.{named_is_found}
use Rattle.mc_script.proofs.laws.named_is_found.Goals as goal

pub returns : goal.returns
returns c = named_is_found
