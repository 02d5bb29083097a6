use Rattle.std.proofs.Common.{◌≡◌, ◌++◌, ◌∙◌, List, ℕ, ap, append_assoc}
use Rattle.std.proofs.lemmas.Result.{on_ok_weaker}
use Rattle.mc_ladder.specs.declared.glyph.Style.{Style}
use Rattle.mc_ladder.specs.Frames.{FrameState}
use Rattle.mc_ladder.specs.Settling.{end_rows, path_row}
use Rattle.mc_ladder.proofs.settle.put_path_rows.Goals as goal

pub returns : goal.returns
returns c =
    let style : c.frame.inside.style ≡ c.args.frame.now.style = ap (λ (f : FrameState). f.style) c.frame.view_is in
    let columns : c.deref.result.now ≡ c.args.frame.now.columns = c.deref.ensures.value ∙ ap (λ (f : FrameState). f.columns) c.frame.view_is in
    let first =
    c.in_ok-put_path_row.ensures
    ∙ (ap (λ (s : Style). c.args.out.now.items ++ path_row s c.deref.result.now c.args.names.now c.args.world.now c.args.view.now) style
    ∙ ap (λ (cs : List ℕ). c.args.out.now.items ++ path_row c.args.frame.now.style cs c.args.names.now c.args.world.now c.args.view.now) columns) in
    on_ok_weaker c.put_end_rows.result
    (λ last. last
    ∙ (ap (λ (l : List ℕ). l ++ end_rows c.args.frame.now c.args.names.now c.args.view.now.flowing c.args.whys.now c.args.view.now) first
    ∙ append_assoc c.args.out.now.items (path_row c.args.frame.now.style c.args.frame.now.columns c.args.names.now c.args.world.now c.args.view.now) (end_rows c.args.frame.now c.args.names.now c.args.view.now.flowing c.args.whys.now c.args.view.now)))
    c.put_end_rows.ensures
