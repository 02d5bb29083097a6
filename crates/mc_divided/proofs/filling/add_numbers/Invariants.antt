use Rattle.std.proofs.Common.{◌≡◌, ◌++◌}
use Rattle.mc_divided.specs.Laying.{kind_of, numbers_of_kind}
use Rattle.mc_divided.proofs.filling.add_numbers.Given as goal

-- those of the kind so far
abbrev pub invariant-loop-number : goal.invariant-loop-number
invariant-loop-number l = l.numbers.items ≡ l.fn.numbers.items ++ numbers_of_kind (kind_of l.assigned l.part l.crossing) l.channels l.number
