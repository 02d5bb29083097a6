use Rattle.std.proofs.Common.{◌≡◌, ◌≤◌, ◌*◌, take}
use Rattle.mc_table.specs.Summaries.{hearing_ends}
use Rattle.mc_table.proofs.summary.hearing_ends.Given as goal

-- those of the paths so far were counted, two at most of each
abbrev pub invariant-loop-view : goal.invariant-loop-view
invariant-loop-view l = (l.count ≡ hearing_ends (take l.view-index l.views)) × (l.count ≤ 2 * l.view-index)
