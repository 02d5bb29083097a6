use Rattle.std.proofs.Common.{sym, ◌∙◌, arith}
use Rattle.mc_path.proofs.Reaching.{high_shown, reached_more}
use Rattle.mc_path.proofs.next_path.Goals as goal

pub bounds-reached-path : goal.bounds-reached-path
bounds-reached-path g c =
    let high = high_shown (g.N.Network.world c.args.network.now) c.args.low c.in_ok-path.path c.keeps.ensures.sound c.requires.inside (sym c.path_from.ensures ∙ c.in_ok-path.was) in
    omega (arith, high.inside, c.requires.reached.all)

pub returns-clause-reached : goal.returns-clause-reached
returns-clause-reached g c =
    reached_more (g.N.Network.world c.args.network.now) c.args.reached.now c.in_ok-path.path.high.slot
    (high_shown (g.N.Network.world c.args.network.now) c.args.low c.in_ok-path.path c.keeps.ensures.sound c.requires.inside (sym c.path_from.ensures ∙ c.in_ok-path.was)) c.requires.reached
