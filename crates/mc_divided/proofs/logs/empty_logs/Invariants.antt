use Rattle.std.proofs.Common.{◌≡◌, ◌≤◌, ℕ, [], drop, length, take}
use Rattle.mc_part.specs.DividedParts.{inner_lists}
use Rattle.mc_merge.specs.Weaving.{clocks_of, log_at, logs_of, numbers_of}
use Rattle.mc_divided.proofs.logs.empty_logs.Given as goal

-- the first parts have theirs
abbrev pub invariant-loop-numbers : goal.invariant-loop-numbers
invariant-loop-numbers l = record {
  rest : l.numbers-iterator.rest.items ≡ drop (length l.logs.items) l.fn.shares.items;
  few : length l.logs.items ≤ length l.fn.shares.items;
  numbers : numbers_of l.logs.items ≡ take (length l.logs.items) (inner_lists l.fn.shares.items);
  clocks : clocks_of l.logs.items ≡ take (length l.logs.items) l.clocks;
  none : (part : ℕ) → log_at (logs_of l.logs.items) part ≡ [];
}
