use Rattle.std.proofs.Common.{◌≡◌, ◌≤◌}
use Rattle.std.proofs.Math.ListN.{get_or, set}
use Rattle.mc_seq.proofs.shifting.lower_to.Given as goal

-- one count alone has changed, and isn't below yet
abbrev pub invariant-down : goal.invariant-down
invariant-down l = record {
  one : l.counts ≡ set l.initial.counts l.who (get_or l.counts l.who 0);
  high : l.count ≤ get_or l.counts l.who 0;
}

abbrev pub decreases-down : goal.decreases-down
decreases-down l = get_or l.counts l.who 0
