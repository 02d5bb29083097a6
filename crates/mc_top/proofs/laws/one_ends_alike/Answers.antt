use Rattle.mc_top.proofs.EndsAlike.{one_ends_alike}
use Rattle.mc_top.proofs.OneJournal.{drawn_journal_is_one}
use Rattle.mc_top.proofs.laws.one_ends_alike.Goals as goal

pub returns : goal.returns
returns c = one_ends_alike (drawn_journal_is_one c.schedule_is_one.ensures)
