use Rattle.std.proofs.Common.{◌≡◌, ◌+◌, ◌≤◌, ◌++◌, length, map}
use Rattle.mc_port.specs.Ends.{received, known, look_count, in_ring, without_stamp}
use Rattle.mc_port.proofs.ends.move_known.Given as goal

abbrev pub invariant-loop : goal.invariant-loop
invariant-loop l = record {
  ring : in_ring l.to ≡ in_ring l.initial.to;
  count : l.counter + length (known l.to) ≡ l.count;
  room : length (known l.to) ≤ l.into.spare;
  received : received l.to ++ known l.to ≡ received l.initial.to ++ known l.initial.to;
  moved : l.into.items ++ map without_stamp (known l.to) ≡ l.initial.into.items ++ map without_stamp (known l.initial.to);
  looks : look_count l.to ≡ look_count l.initial.to;
}
