use Rattle.mc_top.proofs.EndsAlike.{check_ends_alike}
use Rattle.mc_top.proofs.laws.check_ends_alike.Goals as goal

pub returns : goal.returns
returns c = check_ends_alike c.one_journal_fault.ensures
