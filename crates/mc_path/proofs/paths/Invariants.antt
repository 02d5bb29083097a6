use Rattle.mc_path.specs.Reached.{AreReached}
use Rattle.mc_path.proofs.Shown.{ShownTo}
use Rattle.mc_path.proofs.paths.Given as goal

-- the paths of the slots so far, and the slots that these reached
abbrev pub invariant-loop-slot : goal.invariant-loop-slot
invariant-loop-slot g l = record {
  shown : ShownTo (g.N.Network.world l.network) l.slot l.views.items;
  reached : AreReached (g.N.Network.world l.network) l.reached.items;
}
