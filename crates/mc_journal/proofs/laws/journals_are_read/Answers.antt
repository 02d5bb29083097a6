use Rattle.mc_journal.proofs.Again.{journals_are_read}
use Rattle.mc_journal.proofs.laws.journals_are_read.Goals as goal

pub returns : goal.returns
returns c = journals_are_read
