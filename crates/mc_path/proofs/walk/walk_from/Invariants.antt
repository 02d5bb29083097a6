use Rattle.mc_path.proofs.Walking.{StillWalks}
use Rattle.mc_path.proofs.walk.walk_from.Given as goal

-- what is still to walk
abbrev pub invariant-loop-done : goal.invariant-loop-done
invariant-loop-done g l = StillWalks (g.N.Network.world l.network) l.fn.from l.done l.at
