use Rattle.std.proofs.Common.{◌≡◌, map, take}
use Rattle.mc_world.specs.Lanes.{origins}
use Rattle.mc_world.proofs.topology.numbers_among.Given as goal

-- the numbers of the boxes so far
abbrev pub invariant-loop-home : goal.invariant-loop-home
invariant-loop-home l = map (λ numbers. numbers.items) l.numbers.items ≡ map origins (take l.home-index l.boxes)
