use Rattle.mc_words.proofs.OneMode.{growing_no_mode}
use Rattle.mc_words.proofs.laws.growing_is_no_mode.Goals as goal

pub returns : goal.returns
returns c = growing_no_mode
