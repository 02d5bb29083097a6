use Rattle.std.proofs.Common.{◌≡◌, take}
use Rattle.mc_part.specs.DividedParts.{counts_of}
use Rattle.mc_part.proofs.Filling.{numbers_so_far}
use Rattle.mc_part.proofs.homes.homes_of.Given as goal

-- the numbers of the boxes so far, and how many of them each part has
abbrev pub invariant-loop-who : goal.invariant-loop-who
invariant-loop-who l = record {
  numbers : l.numbers.items ≡ numbers_so_far l.assigned l.who;
  counts : l.counts.items ≡ counts_of (take l.who l.assigned) l.fn.count;
}
