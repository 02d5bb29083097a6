use Rattle.std.proofs.Common.{◌≤◌, ◌^◌, ℕ}
use Rattle.std.proofs.Math.ListN.{get_or}
use Rattle.mc_seq.specs.Commands.{commands_left}
use Rattle.mc_seq.specs.Ready.{CountsEach}
use Rattle.mc_seq.specs.Spare.{others_of}
use Rattle.mc_seq.proofs.shifting.other_counts.Given as goal

-- the boxes so far are counted
abbrev pub invariant-loop-who : goal.invariant-loop-who
invariant-loop-who l = record {
  others : CountsEach (others_of l.world (commands_left l.left) l.spare) l.counts.items l.who;
  small : (who : ℕ) → get_or l.counts.items who 0 ≤ 2;
  few : l.who ≤ 2 ^ 32;
}
