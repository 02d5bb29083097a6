use Rattle.mc_world.specs.Pieces.{PlacedUpTo}
use Rattle.mc_world.proofs.network.piece.home_placed.Given as goal

-- the numbers so far are those of slots with their places
abbrev pub invariant-loop-local : goal.invariant-loop-local
invariant-loop-local l = PlacedUpTo l.topology l.who l.local
