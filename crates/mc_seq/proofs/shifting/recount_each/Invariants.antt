use Rattle.std.proofs.Common.{◌≡◌, ◌<◌, ◌≤◌, ◌^◌, ℕ, length}
use Rattle.std.proofs.Math.ListN.{get_or}
use Rattle.mc_seq.specs.Commands.{commands_left}
use Rattle.mc_seq.specs.Spare.{others_of}
use Rattle.mc_seq.proofs.shifting.recount_each.Given as goal

-- the boxes so far are counted anew
abbrev pub invariant-loop-who : goal.invariant-loop-who
invariant-loop-who l = record {
  spare : l.shifts.spare ≡ l.initial.shifts.spare;
  long : length l.shifts.others ≡ length l.world.boxes;
  counts : (other : ℕ) → other < l.who → get_or l.shifts.others other 0 ≡ length (others_of l.world (commands_left l.left) l.shifts.spare.items other);
  few : l.who ≤ 2 ^ 32;
}
