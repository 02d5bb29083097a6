use Rattle.std.proofs.Common.{◌+◌, ◌∙◌, ℕ, ap, arith}
use Rattle.mc_ladder_choice.specs.Choices.{ChoiceState}
use Rattle.mc_ladder_choice.proofs.Surveyed.{begins, line_more}
use Rattle.mc_ladder_choice.proofs.survey.look_through.Goals as goal

pub loop-line-init : goal.loop-line-init
loop-line-init c =
    begins c.args.choice.now c.args.world.now c.args.journal.now c.in_ok-whys.whys c.new-count.result c.in_ok-boxes.boxes.items c.in_ok-closings.closings.items c.in_ok-whys.ensures.tells c.in_ok-whys.ensures.slots
    c.new-count.ensures (c.in_ok-boxes.ensures.items ∙ (c.deref.ensures.value ∙ ap (λ (choice : ChoiceState). choice.boxes) c.choice.view_is)) c.in_ok-closings.ensures

pub loop-line-preserved : goal.loop-line-preserved
loop-line-preserved c =
    line_more c.args.choice.now c.args.world.now c.args.journal.now c.loop-line.world c.pass.new.world c.loop-line.whys c.pass.new.whys c.loop-line.count c.after-count.result c.loop-line.line-index _ c.in_ok-takes.takes
    c.loop-line.drawn _ c.loop-line.boxes.items c.add_taken_boxes.new.boxes.items c.loop-line.closings.items c.mark_taken.new.marks.items (omega (arith, c.loop-line-test.true)) c.in_ok-takes.ensures
    (ap (λ (k : ℕ). c.loop-line.drawn + k) c.drawn_by-drawn.ensures) c.in_ok-add_taken_boxes.ensures c.in_ok-mark_taken.ensures c.in_ok-pass.ensures.made c.in_ok-pass.ensures.notes c.after-count.ensures c.loop-line.invariant
