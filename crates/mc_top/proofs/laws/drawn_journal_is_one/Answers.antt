use Rattle.mc_top.proofs.OneJournal.{drawn_journal_is_one}
use Rattle.mc_top.proofs.laws.drawn_journal_is_one.Goals as goal

pub returns : goal.returns
returns c = drawn_journal_is_one c.schedule_is_one.ensures
