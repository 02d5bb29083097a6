use Rattle.std.proofs.Common.{◌≡◌, ◌≤◌, ℕ}
use Rattle.mc_box.specs.Boxes.{box_owes}
use Rattle.mc_slot_laws.specs.Sums.{total}
use Rattle.mc_world.specs.Waiting.{bit}
use Rattle.mc_replay.proofs.counts.owed_in.Given as goal

-- the slots so far are counted
abbrev pub invariant-loop-local : goal.invariant-loop-local
invariant-loop-local l = record {
  counted : l.owed ≡ total (λ (local : ℕ). bit (box_owes l.one local)) l.local;
  few : l.owed ≤ l.local;
}
