use Rattle.std.proofs.Common.{◌≡◌, ◌++◌, ◌∙◌, Bool, List, ℕ, ap, length}
use Rattle.mc_ladder_choice.specs.Choices.{chosen}
use Rattle.mc_ladder_choice.specs.Surveys.{SurveyState}
use Rattle.mc_ladder_svg.specs.Pictures.{first_y, picture, rows_of}
use Rattle.mc_ladder_svg.proofs.PicturesDrawn.{whole}
use Rattle.mc_ladder_svg.proofs.drawing.draw_by.Goals as goal

pub returns : goal.returns
returns c =
    let closings : c.deref.result.now ≡ c.args.found.now.closings = c.deref.ensures.value ∙ ap (λ (found : SurveyState). found.closings) c.found.view_is in
    let heads = c.deref-2.ensures.value ∙ c.in_ok-heads.ensures in
    let rows =
    c.deref-3.ensures.value
    ∙ (c.in_ok-end.ensures.rows
    ∙ (ap (λ (l : List ℕ). l ++ rows_of c.args.columns.now c.args.names.now c.args.blocks.now c.args.choice.now c.deref.result.now first_y (chosen c.args.choice.now c.args.world.now c.args.journal.now)) c.new-rows.ensures.items
    ∙ ap (λ (marks : List Bool). rows_of c.args.columns.now c.args.names.now c.args.blocks.now c.args.choice.now marks first_y (chosen c.args.choice.now c.args.world.now c.args.journal.now)) closings)) in
    let text = c.in_ok-put_picture.ensures ∙ ap (λ (l : List ℕ). l ++ picture (length c.args.columns.now) c.deref-2.result.now c.deref-3.result.now c.in_ok-end.end) c.new-out.ensures.items in
    whole c.args.columns.now c.args.names.now c.args.blocks.now c.args.world.now c.args.choice.now c.args.found.now c.args.journal.now c.deref-2.result.now c.deref-3.result.now
    c.put_picture.new.out.items c.in_ok-end.end heads rows c.in_ok-end.ensures.end text
