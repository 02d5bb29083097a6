use Rattle.std.proofs.Common.{◌≡◌, [], replicate}
use Rattle.mc_plan.specs.Setups.{lists_of}
use Rattle.mc_plan.proofs.boxes.empty_lists.Given as goal

-- an empty list for each box so far
abbrev pub invariant-loop-done : goal.invariant-loop-done
invariant-loop-done l = lists_of l.lists.items ≡ replicate l._done []
