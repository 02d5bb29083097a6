use Rattle.std.proofs.Common.{◌≡◌, [], map, replicate}
use Rattle.mc_world.proofs.network.piece.no_numbers.Given as goal

-- so many homes without slots so far
abbrev pub invariant-loop-done : goal.invariant-loop-done
invariant-loop-done l = map (λ numbers. numbers.items) l.numbers.items ≡ replicate l._done []
