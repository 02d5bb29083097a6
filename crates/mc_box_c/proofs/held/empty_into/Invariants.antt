use Rattle.std.proofs.Common.{◌≡◌, ◌+◌, ◌++◌, length, map, take, drop}
use Rattle.mc_plain.specs.Numbers.{sent_of}
use Rattle.mc_box_c.proofs.held.empty_into.Given as goal

abbrev pub invariant-loop-i : goal.invariant-loop-i
invariant-loop-i l = record {
  left : l.queue.items ≡ drop l.i l.initial.queue.items;
  room : l.queue.spare + length l.queue.items ≡ l.initial.queue.spare + length l.initial.queue.items;
  written : l.out ≡ map sent_of (take l.i l.initial.queue.items) ++ drop l.i l.initial.out;
}
