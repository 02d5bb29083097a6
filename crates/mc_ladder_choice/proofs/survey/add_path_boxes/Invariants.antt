use Rattle.std.proofs.Common.{◌≡◌, drop, flat_map}
use Rattle.mc_ladder_choice.specs.Boxes.{path_boxes, with_all_new}
use Rattle.mc_ladder_choice.proofs.survey.add_path_boxes.Given as goal

-- the paths that are left make the whole
abbrev pub invariant-loop-view : goal.invariant-loop-view
invariant-loop-view l =
    with_all_new l.boxes.items (flat_map (λ view. path_boxes l.world view.low.slot) (drop l.view-index l.views))
    ≡ with_all_new l.initial.boxes.items (flat_map (λ view. path_boxes l.world view.low.slot) l.views)
