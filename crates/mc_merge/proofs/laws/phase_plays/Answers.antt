use Rattle.mc_merge.proofs.Phases.{phase_plays}
use Rattle.mc_merge.proofs.laws.phase_plays.Goals as goal

pub returns : goal.returns
returns c = phase_plays
