use Rattle.mc_grow.proofs.Asking.{LeaveTo}
use Rattle.mc_grow.proofs.channels.may_leave.Given as goal

-- the slots of the channel so far may leave
abbrev pub invariant-loop-slot : goal.invariant-loop-slot
invariant-loop-slot l = LeaveTo l.world l.out.items l.first l.slot
