use Rattle.std.proofs.Common.{◌<◌, ℕ}
use Rattle.mc_world.specs.Pieces.{EachPlaced}
use Rattle.mc_world.proofs.network.piece.each_placed.Given as goal

-- the homes so far
abbrev pub invariant-loop-who : goal.invariant-loop-who
invariant-loop-who l = (who : ℕ) → who < l.who → EachPlaced l.topology who
