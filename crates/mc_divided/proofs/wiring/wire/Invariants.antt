use Rattle.mc_part.specs.DividedParts.{inner_lists}
use Rattle.mc_divided.specs.Laying.{AreWired}
use Rattle.mc_divided.proofs.wiring.wire.Given as goal

-- the first channels that cross have their ports
abbrev pub invariant-loop-number : goal.invariant-loop-number
invariant-loop-number l = AreWired l.division.assigned.items l.channels l.division.count l.number (inner_lists l.wiring.ports.items) l.wiring.crossings.items
