use Rattle.mc_model.specs.Rings.{NoneBefore}
use Rattle.mc_world.proofs.network.World.ring.Given as goal

-- no slot so far stands on a ring
abbrev pub invariant-loop-slot : goal.invariant-loop-slot
invariant-loop-slot l = NoneBefore l.self l.slot
