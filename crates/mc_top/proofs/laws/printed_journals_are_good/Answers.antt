use Rattle.mc_top.proofs.GoodJournals.{printed_journals_are_good}
use Rattle.mc_top.proofs.laws.printed_journals_are_good.Goals as goal

pub returns : goal.returns
returns c = printed_journals_are_good
