use Rattle.std.proofs.Common.{◌≡◌, ◌+◌, ℕ, take}
use Rattle.mc_world.specs.Lanes.{HasRoom, all_sent, signals_of}
use Rattle.mc_world.specs.Waiting.{IsWaiting}
use Rattle.mc_world.proofs.lanes.send_lane.Given as goal

-- the sendings so far have gone away, flags and counts are those of the lanes, and each lane has as much less room at most
abbrev pub invariant-loop-i : goal.invariant-loop-i
invariant-loop-i l = record {
  sent : signals_of l.lanes ≡ all_sent l.topology l.who (signals_of l.initial.lanes) (take l.i l.sends.items);
  waiting : IsWaiting l.topology (signals_of l.lanes) l.waiting;
  room : (k count : ℕ) → HasRoom l.initial.lanes k (count + l.i) → HasRoom l.lanes k count;
}
