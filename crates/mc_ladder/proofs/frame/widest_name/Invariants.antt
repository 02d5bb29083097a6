use Rattle.std.proofs.Common.{◌≡◌, [], length}
use Rattle.std.specs.Prelude.{slice_index_or}
use Rattle.mc_ladder.specs.Placing.{greatest_of}
use Rattle.mc_ladder.proofs.frame.widest_name.Given as goal

-- the greatest of those so far
abbrev pub invariant-loop-who : goal.invariant-loop-who
invariant-loop-who l = l.widest ≡ greatest_of l.who (λ who. length (slice_index_or l.names.boxes who []))
