use Rattle.std.proofs.Common.{◌≡◌, ℕ, List, length, take, drop}
use Rattle.std.specs.List.{AllByRecursion}
use Rattle.mc_shard.specs.declared.entry.AtEnd.{AtEnd}
use Rattle.mc_entry.specs.Wire.{FitsAt, all_wire}
use Rattle.mc_entry.proofs.reading.read_sent.Given as goal

-- the signals before were read
abbrev pub invariant-loop : goal.invariant-loop
invariant-loop l = record {
  few : length l.sent.items ≡ l.counter;
  fits : AllByRecursion FitsAt l.sent.items;
  reads : (items : List AtEnd) (more : List ℕ) → length items ≡ l.fn.count → AllByRecursion FitsAt items → l.initial.bytes ≡ all_wire items more
      → (l.sent.items ≡ take l.counter items) × (l.bytes ≡ all_wire (drop l.counter items) more);
}
