use Rattle.mc_replay.proofs.Faults.{one_journal_fault}
use Rattle.mc_replay.proofs.laws.one_journal_fault.Goals as goal

pub returns : goal.returns
returns c = one_journal_fault
