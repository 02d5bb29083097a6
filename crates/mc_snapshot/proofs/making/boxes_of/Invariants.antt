use Rattle.std.proofs.Common.{◌≡◌, ◌++◌}
use Rattle.mc_snapshot.proofs.making.boxes_of.Given as goal

-- the boxes so far, and those of the fields that are left, are those of all
abbrev pub invariant-loop-fields : goal.invariant-loop-fields
invariant-loop-fields l = l.boxes.items ++ l.fields-iterator.rest.items ≡ l.fn.all.items
