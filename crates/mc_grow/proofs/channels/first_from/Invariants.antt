use Rattle.std.proofs.Common.{◌-◌}
use Rattle.mc_grow.proofs.Cutting.{Between}
use Rattle.mc_grow.proofs.channels.first_from.Given as goal

-- what is looked for is between the two
abbrev pub invariant-loop-low : goal.invariant-loop-low
invariant-loop-low l = Between l.world l.channel l.low l.high

abbrev pub decreases-loop-low : goal.decreases-loop-low
decreases-loop-low l = l.high - l.low
