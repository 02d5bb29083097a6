use Rattle.mc_merge.proofs.Steps.{steps_are_turns}
use Rattle.mc_merge.proofs.laws.steps_are_turns.Goals as goal

pub returns : goal.returns
returns c = steps_are_turns
