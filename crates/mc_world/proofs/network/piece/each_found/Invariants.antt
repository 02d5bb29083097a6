use Rattle.mc_world.specs.Pieces.{EachFound}
use Rattle.mc_world.proofs.network.piece.each_found.Given as goal

-- the slots so far are found by their places
abbrev pub invariant-loop-slot : goal.invariant-loop-slot
invariant-loop-slot l = EachFound l.topology l.slot
