use Rattle.mc_ladder.proofs.Drawing.{IsDrawn}
use Rattle.mc_ladder.proofs.ladder.put_lines.Given as goal

-- what was drawn, and what is to be drawn of the lines that are left, are the whole ladder; no count passes that of the lines
abbrev pub invariant-loop-line : goal.invariant-loop-line
invariant-loop-line l =
    IsDrawn l.frame l.names l.blocks l.choice l.closings l.initial.world l.journal l.initial.out.items l.world l.whys l.count l.within l.line-index l.out.items
