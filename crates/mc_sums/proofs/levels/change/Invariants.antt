use Rattle.std.proofs.Common.{◌≡◌}
use Rattle.mc_sums.specs.Sums.{levels_of}
use Rattle.mc_sums.proofs.TreePuts.{IsPut}
use Rattle.mc_sums.proofs.levels.change.Given as goal

-- the levels below have changed
abbrev pub invariant-up : goal.invariant-up
invariant-up l = record {
  puts : IsPut (levels_of l.initial.levels) (levels_of l.levels) l.place l.less l.more l.depth l.here;
  begins : l.depth ≡ 0 → l.here ≡ l.place;
}
