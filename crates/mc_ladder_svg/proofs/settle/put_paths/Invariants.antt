use Rattle.std.proofs.Common.{◌≡◌, ◌++◌, drop}
use Rattle.mc_ladder_svg.specs.Settles.{paths_drawn}
use Rattle.mc_ladder_svg.proofs.settle.put_paths.Given as goal

-- what is drawn, and the paths that are left, are all
abbrev pub invariant-loop-before : goal.invariant-loop-before
invariant-loop-before l =
    l.out.items ++ paths_drawn l.columns l.names l.world l.whys l.before (drop l.before l.views) ≡ l.initial.out.items ++ paths_drawn l.columns l.names l.world l.whys 0 l.views
