use Rattle.std.proofs.Common.{◌≡◌, ◌+◌, ℕ, take}
use Rattle.mc_world.specs.Lanes.{HasRoom, all_sent, signals_of}
use Rattle.mc_world.specs.Waiting.{IsWaiting}
use Rattle.mc_world.proofs.lanes.send_all.Given as goal

-- the sendings so far have gone away, flags and counts are those of the lanes, and each lane has as much less room at most
abbrev pub invariant-loop-sending : goal.invariant-loop-sending
invariant-loop-sending l = record {
  sent : signals_of l.lanes ≡ all_sent l.topology l.who (signals_of l.initial.lanes) (take l.sending-index l.sending-items);
  waiting : IsWaiting l.topology (signals_of l.lanes) l.waiting;
  room : (k count : ℕ) → HasRoom l.initial.lanes k (count + l.sending-index) → HasRoom l.lanes k count;
}
