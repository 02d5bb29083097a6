use Rattle.mc_ladder_svg.proofs.PicturesDrawn.{IsDrawn}
use Rattle.mc_ladder_svg.proofs.drawing.put_lines.Given as goal

-- what is drawn, and what is to be drawn of the lines that are left, are all
abbrev pub invariant-loop-line : goal.invariant-loop-line
invariant-loop-line l =
    IsDrawn l.columns l.names l.blocks l.choice l.closings l.initial.world l.journal l.initial.out.items l.world l.whys l.count l.y l.line-index l.out.items
