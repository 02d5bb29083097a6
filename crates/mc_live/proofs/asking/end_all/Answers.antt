use Rattle.mc_live.proofs.Asks.{ends_fit}
use Rattle.mc_live.proofs.asking.end_all.Goals as goal

pub ask_at-requires-clause-few : goal.ask_at-requires-clause-few
ask_at-requires-clause-few g c = ends_fit c.loop-at.at c.args.hand.now _ c.requires.few (c.loop-at.invariant.asked c.loop-at.at)
