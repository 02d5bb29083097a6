use Rattle.std.proofs.Common.{refl}
use Rattle.mc_explain.proofs.reason.Reason.faulty_journal.Goals as goal

pub returns : goal.returns
returns c = (c.in_ok-text.text, refl, c.in_ok-text.ensures)
