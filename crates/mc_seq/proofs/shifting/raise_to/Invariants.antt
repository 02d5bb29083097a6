use Rattle.std.proofs.Common.{◌≡◌, ◌-◌}
use Rattle.std.proofs.Math.ListN.{get_or, set}
use Rattle.mc_seq.proofs.shifting.raise_to.Given as goal

-- one count alone has changed
abbrev pub invariant-up : goal.invariant-up
invariant-up l = l.counts ≡ set l.initial.counts l.who (get_or l.counts l.who 0)

abbrev pub decreases-up : goal.decreases-up
decreases-up l = l.count - get_or l.counts l.who 0
