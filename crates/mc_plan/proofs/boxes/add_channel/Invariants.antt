use Rattle.std.proofs.Common.{◌≡◌, ◌+◌, drop, length}
use Rattle.mc_plan.specs.Setups.{lists_of, setups_at, setups_within, with_more}
use Rattle.mc_plan.proofs.boxes.add_channel.Given as goal

-- the slots so far, and those at the other tunnels, are all
abbrev pub invariant-loop-i : goal.invariant-loop-i
invariant-loop-i l = record {
  all : with_more (λ who. setups_within who (l.count + l.i) l.channel (drop l.i l.channel.tunnels)) 0 (lists_of l.lists.items) ≡ with_more (λ who. setups_at who l.count l.channel) 0 (lists_of l.fn.lists.items);
  boxes : length l.lists.items ≡ length l.fn.lists.items;
}
