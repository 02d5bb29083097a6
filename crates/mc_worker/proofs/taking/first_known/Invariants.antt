use Rattle.std.proofs.Common.{◌≡◌, ℕ, ◌<◌, [], length, map}
use Rattle.mc_port.specs.Ends.{in_ring}
use Rattle.mc_worker.specs.Ends.{InAccount, Passed, ring_end}
use Rattle.mc_worker.proofs.taking.first_known.Given as goal

abbrev pub invariant-loop-end : goal.invariant-loop-end
invariant-loop-end l = record {
  account : (e : ℕ) → InAccount (ring_end l.initial.ins.items e) (ring_end l.ins.items e) [];
  rings : map in_ring l.ins.items ≡ map in_ring l.initial.ins.items;
  ports : length l.ins.items ≡ length l.initial.ins.items;
  passed : (e : ℕ) → e < l.end → Passed l.from e (ring_end l.initial.ins.items e) (ring_end l.ins.items e);
}
