use Rattle.mc_grow.proofs.Cutting.{OutTo}
use Rattle.mc_grow.proofs.channels.take_out.Given as goal

-- the slots of the channel so far are out
abbrev pub invariant-loop-slot : goal.invariant-loop-slot
invariant-loop-slot l = OutTo l.world l.fn.out.items l.out.items l.channel l.slot
