use Rattle.std.proofs.Common.{◌≡◌}
use Rattle.mc_ladder.specs.Placing.{greatest_of, take_cells}
use Rattle.mc_ladder.proofs.frame.place_width.Given as goal

-- the greatest of those so far
abbrev pub invariant-loop-slot : goal.invariant-loop-slot
invariant-loop-slot l = l.widest ≡ greatest_of l.slot (take_cells l.style l.names l.world)
