use Rattle.std.proofs.Common.{sym}
use Rattle.mc_desk.proofs.Indices.{indexed_after}
use Rattle.mc_desk.proofs.Moves.{asks, sees}
use Rattle.mc_desk.proofs.desk.Desk.ask.Goals as goal

pub push_as-requires-clause-rule : goal.push_as-requires-clause-rule
push_as-requires-clause-rule g c = (asks _ _ _ _ c.args.who.now.kind (sym c.args.who.now.numbered) (sym c.args.who.now.counted), sees _ _)

pub invariant_of-who-clause-indexed : goal.invariant_of-who-clause-indexed
invariant_of-who-clause-indexed g c = indexed_after _ _ _ c.in-Ok.ensures.rule c.args.who.now.indexed c.args.who.now.counted
