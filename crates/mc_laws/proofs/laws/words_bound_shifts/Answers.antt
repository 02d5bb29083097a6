use Rattle.mc_laws.proofs.Words.{words_bound_shifts}
use Rattle.mc_laws.proofs.laws.words_bound_shifts.Goals as goal

pub returns : goal.returns
returns c = words_bound_shifts
