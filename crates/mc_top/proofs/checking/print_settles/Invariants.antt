use Rattle.std.proofs.Common.{◌≡◌, ◌+◌, ◌++◌, drop}
use Rattle.mc_replay.specs.Replays.{views_of}
use Rattle.mc_top.specs.Shown.{shown_text}
use Rattle.mc_top.proofs.checking.print_settles.Given as goal

-- what was printed so far, and the settles that are left, are all
abbrev pub invariant-loop-index : goal.invariant-loop-index
invariant-loop-index l = shown_text l.names 1 (views_of l.shown) ≡ l.output.items ++ shown_text l.names (l.index + 1) (views_of (drop l.index l.shown))
