use Rattle.mc_laws.proofs.BothWays.{WalkBoth}
use Rattle.mc_world.proofs.network.World.is_on_ring.Given as goal

-- where the two walks are
abbrev pub invariant-loop-done : goal.invariant-loop-done
invariant-loop-done l = WalkBoth l.self l.slot l._done l.ahead l.behind
