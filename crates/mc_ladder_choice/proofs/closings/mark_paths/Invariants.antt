use Rattle.std.proofs.Common.{flat_map, take}
use Rattle.mc_ladder_choice.specs.Closings.{AddsMarks, view_closings}
use Rattle.mc_ladder_choice.proofs.closings.mark_paths.Given as goal

-- those that the paths so far name are marked
abbrev pub invariant-loop-view : goal.invariant-loop-view
invariant-loop-view l = AddsMarks (flat_map (view_closings l.whys) (take l.view-index l.views)) l.initial.marks.items l.marks.items
