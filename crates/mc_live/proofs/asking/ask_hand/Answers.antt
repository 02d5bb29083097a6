use Rattle.std.proofs.Common.{rules, ◌<◌, length}
use Rattle.mc_live.proofs.Asks.{asks_fit}
use Rattle.mc_live.proofs.asking.ask_hand.Goals as goal

pub ask_at-requires-clause-few : goal.ask_at-requires-clause-few
ask_at-requires-clause-few g c =
    let below : c.loop-turn.turn-index < length c.args.hand.now = search rules in
    asks_fit _ c.args.hand.now c.loop-turn.turn-index _ below c.requires.few (c.loop-turn.invariant.asked _)
