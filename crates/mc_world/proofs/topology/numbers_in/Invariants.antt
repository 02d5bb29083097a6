use Rattle.std.proofs.Common.{◌≡◌, take}
use Rattle.mc_world.specs.Lanes.{origins}
use Rattle.mc_world.proofs.topology.numbers_in.Given as goal

-- the numbers of the slots so far
abbrev pub invariant-loop-local : goal.invariant-loop-local
invariant-loop-local l = l.numbers.items ≡ take l.local (origins l.home)
