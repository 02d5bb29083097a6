use Rattle.mc_laws.proofs.Words.{run_keeps_words}
use Rattle.mc_laws.proofs.laws.run_keeps_words.Goals as goal

pub returns : goal.returns
returns c = run_keeps_words
