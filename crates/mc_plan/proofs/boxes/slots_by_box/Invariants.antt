use Rattle.std.proofs.Common.{◌≡◌, ◌≤◌, ◌*◌, [], drop, length, replicate}
use Rattle.mc_plan.specs.Setups.{lists_of, setups_from, setups_of, with_more}
use Rattle.mc_plan.proofs.boxes.slots_by_box.Given as goal

-- the slots so far, and those at the other channels, are all
abbrev pub invariant-loop-channel : goal.invariant-loop-channel
invariant-loop-channel l = record {
  all : with_more (λ who. setups_from who l.count (drop l.channel-index l.channels)) 0 (lists_of l.lists.items) ≡ with_more (setups_of l.channels) 0 (replicate l.boxes []);
  boxes : length l.lists.items ≡ l.boxes;
  few : l.count ≤ 8 * l.channel-index;
}
