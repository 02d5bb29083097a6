use Rattle.mc_ladder_choice.proofs.Marked.{ends_marked}
use Rattle.mc_ladder_choice.proofs.closings.mark_ends.Goals as goal

pub returns : goal.returns
returns c =
    ends_marked c.args.whys.now c.args.view.now c.why_at.result c.why_at-2.result c.args.marks.now.items c.mark.new.marks.items c.mark-2.new.marks.items
    c.why_at.ensures c.why_at-2.ensures c.mark.ensures c.mark-2.ensures
