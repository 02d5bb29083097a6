use Rattle.mc_segments.proofs.Places.{between_within}
use Rattle.mc_segments.proofs.journal.turns_between.Goals as goal

pub returns : goal.returns
returns c = between_within c.args.turns.now c.args.from c.args.place c.min.result c.min-2.result c.min.ensures c.min-2.ensures
