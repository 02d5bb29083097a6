use Rattle.std.proofs.Common.{◌≡◌, ◌≤◌, ◌+◌, ℕ, length, map, take}
use Rattle.mc_port.specs.Tunnels.{event_sends, tunnels_at}
use Rattle.mc_port.specs.Ends.{out_ring}
use Rattle.mc_worker.specs.Ends.{OutAccount, out_end}
use Rattle.mc_worker.proofs.sending.send_all.Given as goal

abbrev pub invariant-loop-sending : goal.invariant-loop-sending
invariant-loop-sending l = record {
  account : (e : ℕ) → OutAccount (out_end l.initial.outs.items l.initial.outboxes.boxes e) (out_end l.outs.items l.outboxes.boxes e) (event_sends (tunnels_at l.place e) l.stamp (take l.sending-index l.sendings));
  rings : map out_ring l.outs.items ≡ map out_ring l.initial.outs.items;
  ports : length l.outs.items ≡ length l.initial.outs.items;
  boxes : length l.outboxes.boxes ≡ length l.initial.outs.items;
  room : l.initial.outboxes.room ≤ l.outboxes.room + l.sending-index;
}
