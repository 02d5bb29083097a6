use Rattle.std.proofs.Common.{◌≤◌, ◌^◌, ℕ}
use Rattle.std.proofs.Math.ListN.{get_or}
use Rattle.mc_seq.specs.Commands.{first_of, queues_of}
use Rattle.mc_seq.specs.Ready.{CountsEach}
use Rattle.mc_seq.proofs.commands.first_counts.Given as goal

-- the boxes so far are counted
abbrev pub invariant-loop-who : goal.invariant-loop-who
invariant-loop-who l = record {
  first : CountsEach (first_of (queues_of l.queues)) l.counts.items l.who;
  small : (who : ℕ) → get_or l.counts.items who 0 ≤ 1;
  few : l.who ≤ 2 ^ 32;
}
