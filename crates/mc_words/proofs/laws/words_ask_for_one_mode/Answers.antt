use Rattle.mc_words.proofs.OneMode.{asks_for_one}
use Rattle.mc_words.proofs.laws.words_ask_for_one_mode.Goals as goal

pub returns : goal.returns
returns c = asks_for_one
