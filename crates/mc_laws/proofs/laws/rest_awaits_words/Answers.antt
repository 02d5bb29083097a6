use Rattle.mc_laws.proofs.Words.{rest_awaits_words}
use Rattle.mc_laws.proofs.laws.rest_awaits_words.Goals as goal

pub returns : goal.returns
returns c = rest_awaits_words
