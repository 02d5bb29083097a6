use Rattle.std.proofs.Common.{◌≡◌, take}
use Rattle.mc_net_text.proofs.same_names.are_same_slots.Given as goal

-- the same so far
abbrev pub invariant-loop-who : goal.invariant-loop-who
invariant-loop-who l = take l.who l.names.slots ≡ take l.who l.other.slots
