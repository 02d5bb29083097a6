use Rattle.mc_ladder_page.specs.Cells.{signal_quoted}
use Rattle.mc_ladder_page.proofs.Lanes.{IsTold}
use Rattle.mc_ladder_page.proofs.cell.put_lane.Given as goal

-- what is told, and what is left of the lane, are all
abbrev pub invariant-loop-i : goal.invariant-loop-i
invariant-loop-i l = IsTold (signal_quoted l.names l.world) l.tunnel l.lane.items l.initial.out.items l.out.items l.i
