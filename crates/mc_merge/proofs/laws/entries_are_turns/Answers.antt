use Rattle.mc_merge.proofs.Phases.{entries_are_turns}
use Rattle.mc_merge.proofs.laws.entries_are_turns.Goals as goal

pub returns : goal.returns
returns c = entries_are_turns
