use Rattle.mc_top.proofs.TextAlone.{text_alone_decides}
use Rattle.mc_top.proofs.laws.text_alone_decides.Goals as goal

pub returns : goal.returns
returns c = text_alone_decides
