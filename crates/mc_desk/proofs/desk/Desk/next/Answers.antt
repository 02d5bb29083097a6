use Rattle.mc_desk.proofs.Moves.{takes, sees}
use Rattle.mc_desk.proofs.desk.Desk.next.Goals as goal

pub pop_as-requires-clause-rule : goal.pop_as-requires-clause-rule
pop_as-requires-clause-rule g c = (takes _ _ c.args.taker.now.kind, sees _ _)
