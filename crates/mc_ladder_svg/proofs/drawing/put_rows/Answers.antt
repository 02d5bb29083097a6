use Rattle.std.proofs.Common.{◌≡◌, ◌+◌, ◌++◌, ◌∙◌, ℕ, Option, List, false, ap}
use Rattle.mc_view.specs.declared.PathView.{PathView}
use Rattle.mc_ladder_choice.specs.Choices.{shown_paths}
use Rattle.mc_ladder_svg.specs.Settles.{settle_block}
use Rattle.mc_ladder_svg.proofs.drawing.put_rows.Goals as goal

pub returns-in_ok-put_settle-in-Settled-clause-rows : goal.returns-in_ok-put_settle-in-Settled-clause-rows
returns-in_ok-put_settle-in-Settled-clause-rows c =
    let told : c.deref.result.now ≡ c.args.whys.now.whys = c.deref.ensures.value ∙ c.in_ok-all-in-Settled.ensures in
    rw c.in-Settled.is (c.in_ok-put_settle-in-Settled.ensures
    ∙ (ap (λ (vs : List PathView). c.args.out.now.items ++ settle_block c.args.columns.now c.args.names.now c.args.world.now c.deref.result.now vs (record { number = c.args.count.settles + 1; y = c.args.y; closing = false }))
    (c.deref-in-Settled.ensures.value ∙ c.in_ok-views-in-Settled.ensures)
    ∙ ap (λ (whys : List (Option ℕ)). c.args.out.now.items ++ settle_block c.args.columns.now c.args.names.now c.args.world.now whys (shown_paths c.args.choice.now c.args.world.now) (record { number = c.args.count.settles + 1; y = c.args.y; closing = false }))
    told))
