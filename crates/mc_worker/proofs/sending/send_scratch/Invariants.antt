use Rattle.std.proofs.Common.{◌≡◌, ◌≤◌, ℕ, length, map}
use Rattle.mc_port.specs.Tunnels.{event_sends, tunnels_at}
use Rattle.mc_port.specs.Ends.{out_ring}
use Rattle.mc_worker.specs.Ends.{OutAccount, OutEnd, out_end}
use Rattle.mc_worker.proofs.sending.send_scratch.Given as goal

-- what is still to be sent makes the account whole
abbrev pub invariant-loop-sending : goal.invariant-loop-sending
invariant-loop-sending l = record {
  goes_on : (e : ℕ) (end : OutEnd) → OutAccount (out_end l.outs.items l.outboxes.boxes e) end (event_sends (tunnels_at l.place e) l.stamp l.scratch.items)
      → OutAccount (out_end l.initial.outs.items l.initial.outboxes.boxes e) end (event_sends (tunnels_at l.place e) l.stamp l.initial.scratch.items);
  rings : map out_ring l.outs.items ≡ map out_ring l.initial.outs.items;
  ports : length l.outs.items ≡ length l.initial.outs.items;
  boxes : length l.outboxes.boxes ≡ length l.initial.outs.items;
  room : length l.scratch.items ≤ l.outboxes.room;
}

abbrev pub decreases-loop-sending : goal.decreases-loop-sending
decreases-loop-sending l = length l.scratch.items
