use Rattle.std.proofs.Common.{◌≡◌, ◌+◌, ◌++◌, drop}
use Rattle.mc_replay.specs.Replays.{views_of}
use Rattle.mc_replay.specs.Told.{whys_of}
use Rattle.mc_top.specs.Shown.{printed_text}
use Rattle.mc_top.proofs.checking.print_told.Given as goal

-- what was printed so far, and the settles that are left, are all
abbrev pub invariant-loop-index : goal.invariant-loop-index
invariant-loop-index l = printed_text l.names 1 (views_of l.shown) (whys_of l.told) ≡ l.output.items ++ printed_text l.names (l.index + 1) (views_of (drop l.index l.shown)) (whys_of (drop l.index l.told))
