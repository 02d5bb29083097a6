use Rattle.mc_grow.proofs.Cutting.{NoneUsed}
use Rattle.mc_grow.proofs.channels.least_used.Given as goal

-- no slot of the channel so far is in use
abbrev pub invariant-loop-slot : goal.invariant-loop-slot
invariant-loop-slot l = NoneUsed l.world l.channel l.slot
