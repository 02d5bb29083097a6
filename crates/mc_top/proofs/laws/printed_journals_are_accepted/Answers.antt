use Rattle.mc_top.proofs.Accepted.{printed_journals_are_accepted}
use Rattle.mc_top.proofs.laws.printed_journals_are_accepted.Goals as goal

pub returns : goal.returns
returns c = printed_journals_are_accepted
