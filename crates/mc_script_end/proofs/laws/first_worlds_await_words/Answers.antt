use Rattle.mc_script_end.proofs.FirstWorlds.{first_worlds_await_words}
use Rattle.mc_script_end.proofs.laws.first_worlds_await_words.Goals as goal

pub returns : goal.returns
returns c = first_worlds_await_words
