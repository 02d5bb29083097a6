use Rattle.std.proofs.Common.{◌<◌, length, sym, arith}
use Rattle.mc_phase.proofs.LeftTurns.{turn_more}
use Rattle.mc_phase.proofs.leaving.add_left.Goals as goal

pub loop-at-preserved : goal.loop-at-preserved
loop-at-preserved c =
    let below : c.loop-at.at < length c.args.stimuli.now.items = omega (arith, c.loop-at-test.true, c.len-at-end.ensures) in
    turn_more c.args.who c.args.turns.now.items c.loop-at.turns.items c.push.new.self.items c.args.stimuli.now.items c.loop-at.at c.get.result c.loop-at.invariant below (sym c.get.ensures) c.in_ok-push.ensures.items
