use Rattle.mc_segments.proofs.Marked.{journal_from}
use Rattle.mc_segments.proofs.laws.ends_make_journal.Goals as goal

pub returns : goal.returns
returns c = λ world turns ends are. journal_from ends world turns 0 are
