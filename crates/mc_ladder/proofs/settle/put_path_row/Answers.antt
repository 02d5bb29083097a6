use Rattle.std.proofs.Common.{◌++◌, ◌∙◌, List, ℕ, ap, append_assoc}
use Rattle.std.proofs.lemmas.Result.{on_ok_weaker}
use Rattle.mc_table.specs.Shown.{view_line}
use Rattle.mc_ladder.specs.Settling.{route_lanes}
use Rattle.mc_ladder.proofs.settle.put_path_row.Goals as goal

pub returns : goal.returns
returns c =
    on_ok_weaker c.put_path_line.result
    (λ last. last ∙ (ap (λ (l : List ℕ). l ++ view_line c.args.names.now c.args.view.now) c.in_ok-put_route.ensures ∙ append_assoc c.args.out.now.items (route_lanes c.args.style c.args.columns.now c.args.world.now c.args.view.now) (view_line c.args.names.now c.args.view.now)))
    c.put_path_line.ensures
