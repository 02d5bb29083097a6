use Rattle.std.proofs.Common.{◌≡◌, ◌+◌, ◌++◌, take}
use Rattle.mc_lane.proofs.lane.Lane.push_all.Given as goal

-- what was there, and the items so far
abbrev pub invariant-loop-item : goal.invariant-loop-item
invariant-loop-item g l = record {
  items : l.self.items ≡ l.initial.self.items ++ take l.item-index l.items;
  room : l.self.spare + l.item-index ≡ l.initial.self.spare;
}
